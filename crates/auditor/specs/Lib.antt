pub mod Following
pub mod Answers
