pub mod Births
pub mod Standing
pub mod Promises
pub mod Candidates
