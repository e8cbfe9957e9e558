pub mod Samples
pub mod Counts
pub mod Inner
