pub mod FoldedSums
