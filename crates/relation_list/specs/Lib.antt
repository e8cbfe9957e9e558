pub mod Names
pub mod Listings
pub mod Texts
pub mod Values
pub mod Inner
