pub mod Stored
pub mod LeadOrder
pub mod Ranks
pub mod Rules
pub mod Columns
pub mod Inner
pub mod ColumnLaws
