pub mod CellLaws
pub mod CloneSteps
pub mod FileSteps
