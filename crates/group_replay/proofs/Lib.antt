pub mod Beginning
mod EditRuns
pub mod Editing
mod FrameRuns
mod FrameSums
mod GroupBodies
mod GroupContents
pub mod KeptParts
mod Marks
mod Refilled
pub mod Resuming
mod RowLaws
mod RowRule
pub mod SaidInodes
mod ShownFrames
mod Spelled
