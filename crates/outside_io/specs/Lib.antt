pub mod Causes
pub mod Told
pub mod Mem
pub mod Moments
pub mod Traces
pub mod Inner
pub mod Kept
pub mod Picks
