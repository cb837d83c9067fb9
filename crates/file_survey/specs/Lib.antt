pub mod Ahead
pub mod Names
pub mod Findings
pub mod Indexed
pub mod NamedGlances
