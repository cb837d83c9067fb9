pub mod Counting
pub mod Edge
pub mod Showing
