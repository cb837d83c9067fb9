mod HeadLaws
mod StepLaws
mod EditLaws
mod Searches
pub mod TakenStates
