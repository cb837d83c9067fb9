pub mod FlakyDisk
pub mod FuseDisk
pub mod History
pub mod MemDisk
pub mod Stretch
pub mod Torn
