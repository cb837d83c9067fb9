pub mod Told
pub mod Asked
mod Uncut
mod Lefts
mod Alone
pub mod LastFrames
pub mod CommandFacts
mod MentionFacts
mod Passes
mod Sourcing
mod Goings
mod Steps
pub mod Aheads
mod Standing
pub mod Nexts
mod Steady
