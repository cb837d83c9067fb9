mod WantedOnes
mod LawfulKinds
mod Spelled
pub mod Writable
pub mod Numbers
