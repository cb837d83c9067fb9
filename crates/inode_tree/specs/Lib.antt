pub mod Changes
pub mod Extras
pub mod Kinds
pub mod Openings
pub mod Places
pub mod Retraced
pub mod Trees
pub mod Walked
