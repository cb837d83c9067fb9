pub mod Edited
pub mod Pages
pub mod Sought
