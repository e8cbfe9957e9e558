pub mod WordTotals
pub mod NamedProducts
pub mod ProductColumns
pub mod ProductRows
