pub mod Certified
pub mod Verdicts
pub mod Inner
