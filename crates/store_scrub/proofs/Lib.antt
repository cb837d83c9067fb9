pub mod Bodies
pub mod Groups
pub mod Journals
pub mod KindNumbers
pub mod Sums
