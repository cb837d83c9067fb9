pub mod TextExamples
pub mod Glyphs
pub mod OneReading
pub mod LineRuns
pub mod LineShapes
pub mod Judging
pub mod ReadAgain
pub mod WholeFiles
