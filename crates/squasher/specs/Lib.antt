pub mod Judging
pub mod Writing
pub mod Squashing
