pub mod SumProducts
pub mod Inner
