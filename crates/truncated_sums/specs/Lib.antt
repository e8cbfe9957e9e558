pub mod Totals
pub mod DecreasingLists
pub mod TruncatedSums
pub mod Inverses
pub mod Running
pub mod Summing
