pub mod TableOf
pub mod Pages
pub mod Prefixes
pub mod FinalRows
pub mod Resuming
pub mod Builds
pub mod Stays
pub mod Histories
