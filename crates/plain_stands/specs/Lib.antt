pub mod Tags
pub mod Stands
