pub mod Entries
pub mod Admission
pub mod Indexes
pub mod Slots
