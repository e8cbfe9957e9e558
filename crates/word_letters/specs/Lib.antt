pub mod Packing
pub mod Order
pub mod IndexText
pub mod Inner
