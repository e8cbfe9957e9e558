pub mod TermLemmas
pub mod KnownTerms
pub mod Adding
pub mod Sorting
pub mod LeastWords
pub mod SumLemmas
