pub mod OldPages
pub mod Taking
pub mod Places
pub mod Readings
pub mod OldFiles
pub mod Keeping
pub mod Copying
pub mod Outcomes
