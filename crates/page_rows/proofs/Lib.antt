mod Making
pub mod Writing
pub mod PagePairs
