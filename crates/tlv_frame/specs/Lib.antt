pub mod Frame
pub mod Table
pub mod Front
pub mod Feeding
pub mod InFront
pub mod Cuts
