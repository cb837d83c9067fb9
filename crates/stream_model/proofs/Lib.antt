pub mod Edits
pub mod Known
pub mod TakenAgain
pub mod StreamAnswers
mod StreamExamples
