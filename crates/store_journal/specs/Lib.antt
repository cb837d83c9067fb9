pub mod Answers
pub mod Filling
pub mod Holding
pub mod Opening
pub mod Reading
pub mod Shown
pub mod Standing
