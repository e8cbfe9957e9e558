pub mod MergeWords
pub mod Statuses
pub mod ShareRuns
pub mod Inner
