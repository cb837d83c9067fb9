pub mod Finding
pub mod Copying
