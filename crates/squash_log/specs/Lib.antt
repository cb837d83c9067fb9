pub mod Changes
pub mod Cells
pub mod Fates
pub mod Stacks
pub mod Resolved
