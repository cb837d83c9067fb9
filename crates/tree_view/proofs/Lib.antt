pub mod Entries
pub mod LineByField
pub mod ShownParts
pub mod Texts
pub mod Unpacked
