pub mod Opening
pub mod State
pub mod Syncing
