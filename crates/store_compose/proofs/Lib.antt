pub mod StandingEntries
pub mod NewEntries
pub mod TracedEntries
pub mod FileAnswers
pub mod OverStanding
pub mod StoreAnswers
pub mod OverEnds
pub mod SquashAnswers
