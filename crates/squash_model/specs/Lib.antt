pub mod Squashed
pub mod SquashLaws
pub mod SquashedStreams
pub mod PlacedSquash
pub mod SquashJudge
pub mod SquashDues
pub mod Liveness
