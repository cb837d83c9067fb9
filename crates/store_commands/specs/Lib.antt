pub mod Dropping
pub mod Ending
pub mod Files
pub mod Receiving
