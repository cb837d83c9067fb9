pub mod RangeTests
pub mod KeptCells
pub mod LivingMaps
pub mod SpanRuns
pub mod FateRuns
pub mod StackLaws
pub mod Resolving
