pub mod HeadNumbers
pub mod RowPages
pub mod Walking
pub mod Shares
pub mod Putting
