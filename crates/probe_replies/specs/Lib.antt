pub mod Values
pub mod Replies
pub mod Stuffles
pub mod Inner
