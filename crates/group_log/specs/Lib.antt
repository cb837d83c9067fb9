pub mod Journal
pub mod Laws
pub mod Shown
pub mod State
pub mod Stopping
