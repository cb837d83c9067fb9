pub mod AnyKind
pub mod Meaning
