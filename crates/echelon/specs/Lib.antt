pub mod Lists
pub mod States
pub mod Offers
pub mod Finishes
pub mod Traces
pub mod Answers
pub mod Inner
