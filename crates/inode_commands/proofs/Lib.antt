pub mod Can
pub mod Joined
