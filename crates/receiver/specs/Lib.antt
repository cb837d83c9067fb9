pub mod Standing
pub mod Answers
pub mod Disks
pub mod Steps
pub mod Running
pub mod FileEnds
pub mod ReceiveEnds
