pub mod Given
pub mod Meaning
pub mod Names
pub mod Outside
pub mod Splits
