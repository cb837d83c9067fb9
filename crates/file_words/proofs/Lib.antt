pub mod ParentSteps
pub mod Standing
