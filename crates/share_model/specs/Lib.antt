pub mod Dealing
pub mod Shares
pub mod Checked
