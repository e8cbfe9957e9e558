pub mod Replies
pub mod Refusals
pub mod Telling
pub mod Inner
