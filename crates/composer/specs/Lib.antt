pub mod OverBase
pub mod Kept
pub mod Reached
pub mod Taking
pub mod Adding
pub mod Files
