pub mod Standing
pub mod Reading
pub mod ReadRuns
pub mod Ending
pub mod Squashing
