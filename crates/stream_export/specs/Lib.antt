pub mod Exporting
pub mod Framed
pub mod Steps
