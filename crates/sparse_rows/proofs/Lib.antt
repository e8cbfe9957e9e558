pub mod EntryLemmas
mod Merging
mod Multiplying
mod Scaling
pub mod SameRows
