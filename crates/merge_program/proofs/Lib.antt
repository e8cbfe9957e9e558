pub mod OneShare
pub mod Endings
