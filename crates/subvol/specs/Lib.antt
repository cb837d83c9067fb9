pub mod Allocations
pub mod Files
