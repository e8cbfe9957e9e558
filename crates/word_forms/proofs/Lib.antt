mod SumLemmas
mod Adding
mod GatheredRows
pub mod FormSums
mod PlacedWords
mod FormLists
mod FormColumns
