pub mod OldFiles
pub mod Migrations
pub mod Answers
pub mod Inner
