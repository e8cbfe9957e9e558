pub mod GainLemmas
pub mod LetterLemmas
pub mod SumProductLemmas
pub mod GreatestWeights
pub mod MergeLemmas
pub mod CellLemmas
pub mod RowLemmas
pub mod NextCell
