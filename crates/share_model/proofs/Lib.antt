pub mod Numbers
pub mod ShareSpans
pub mod ShareResults
