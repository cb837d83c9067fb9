pub mod AheadSteps
pub mod FilesAhead
pub mod TooLong
pub mod HeadSpelling
pub mod Versions
pub mod NamedItems
pub mod Surveys
pub mod Named
mod IndexedUuids
