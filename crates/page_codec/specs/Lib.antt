pub mod Spelling
pub mod Bounds
pub mod Tests
pub mod Places
pub mod Inner
