pub mod EscapedForms
pub mod Anew
pub mod RequestExamples
pub mod TurnWords
pub mod TurnGuards
pub mod GivenWords
pub mod ParentWords
pub mod MeantByAnswers
pub mod TextMeanings
mod MeantExamples
pub mod ReceivedFiles
