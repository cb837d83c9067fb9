pub mod Adding
pub mod Directories
pub mod Held
pub mod Orders
pub mod Versions
