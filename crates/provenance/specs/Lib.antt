pub mod Traces
pub mod TraceLaws
pub mod Cuts
pub mod Plans
