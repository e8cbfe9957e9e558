pub mod Lists
pub mod Coordinations
pub mod Steps
pub mod Runs
pub mod Finishes
pub mod Inner
