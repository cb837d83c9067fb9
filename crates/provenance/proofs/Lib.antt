pub mod CutBounds
pub mod CutLaws
pub mod CutPieces
pub mod CutSteps
pub mod Found
pub mod Fronts
pub mod Retags
