pub mod Exact
pub mod Blocks
pub mod Slots
pub mod Puts
