pub mod EscapedWords
pub mod FileWords
pub mod TurnWords
pub mod Requests
pub mod Profiles
pub mod Answers
pub mod AnswerMeanings
