pub mod Numbers
pub mod Inserted
pub mod Orders
pub mod Found
pub mod Adding
pub mod Tags
