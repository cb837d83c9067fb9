pub mod Passed
pub mod Alike
pub mod Standing
pub mod Between
pub mod Searching
