pub mod Inner
pub mod Leaving
