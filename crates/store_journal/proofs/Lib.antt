pub mod Keeping
pub mod Opened
pub mod Pushes
pub mod ReadFiles
pub mod Rooms
pub mod StandingGroups
pub mod Stopped
pub mod Unpacked
mod Refusing
