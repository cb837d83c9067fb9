pub mod SentCells
pub mod SentWalks
pub mod Capabilities
pub mod SentInodes
pub mod SentPaths
pub mod SentParts
pub mod SentSteps
pub mod SentAgain
pub mod SentNumbers
pub mod SentReceived
pub mod SentKept
pub mod SentSpelled
pub mod SentNext
pub mod SentTold
pub mod TemporaryNames
pub mod RestoredSteps
pub mod RestoredParts
pub mod LastCapabilities
pub mod RestoredAgain
pub mod RestoredReceived
pub mod Holes
pub mod StoredKept
pub mod StoredSent
mod SentExamples
mod RestoredExamples
pub mod MeantBySending
mod FieldExamples
