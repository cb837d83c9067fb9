pub mod Lists
pub mod Orders
pub mod Homes
pub mod Edits
pub mod Parts
pub mod Editing
pub mod Spots
