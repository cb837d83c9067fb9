pub mod Above
pub mod Named
pub mod Upward
pub mod Leasts
pub mod Indexing
pub mod Writes
pub mod Lookups
