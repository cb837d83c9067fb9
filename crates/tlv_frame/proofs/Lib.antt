mod Headers
mod Slots
pub mod Progress
pub mod Parts
pub mod Uncut
pub mod Fronts
pub mod Pieces
pub mod Growing
mod Cuts
