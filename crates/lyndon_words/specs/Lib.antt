pub mod Lyndon
pub mod Monomials
pub mod Inner
pub mod Listing
