pub mod Answered
pub mod Objects
pub mod Promises
