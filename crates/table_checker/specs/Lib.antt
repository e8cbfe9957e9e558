pub mod Checks
pub mod CheckedTables
pub mod Inner
