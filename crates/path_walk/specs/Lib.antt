pub mod Ahead
pub mod Passing
