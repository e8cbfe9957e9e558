pub mod TotalLemmas
mod Adding
mod GatheredRows
mod FoundPairs
