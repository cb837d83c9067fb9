pub mod Meaning
pub mod Values
pub mod Writing
