pub mod Files
pub mod Notes
pub mod Stays
pub mod Puts
pub mod Inner
