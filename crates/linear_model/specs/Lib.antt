pub mod Rows
pub mod Reduced
pub mod Forward
pub mod Tables
