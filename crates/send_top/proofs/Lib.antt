pub mod Clauses
pub mod Hexadecimal
pub mod MissingNote
pub mod Notes
pub mod Statuses
