pub mod SomeFractions
pub mod CutSigns
pub mod FractionTerms
pub mod TextLaws
pub mod TermSteps
