pub mod Least
pub mod Below
pub mod Adding
pub mod Passes
