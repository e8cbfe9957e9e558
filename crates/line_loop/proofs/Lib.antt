pub mod Cutting
pub mod Under
pub mod Whole
pub mod Ending
