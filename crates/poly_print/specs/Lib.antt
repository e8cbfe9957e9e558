pub mod Polynomials
pub mod Inner
