pub mod Unpacked
pub mod Going
pub mod OneFile
pub mod AllFiles
pub mod Answering
pub mod Opening
pub mod Frames
pub mod ReadFrames
pub mod Walking
pub mod FreeNames
mod Named
mod OneItem
mod Separating
