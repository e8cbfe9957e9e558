pub mod NamedValues
pub mod TableFaults
pub mod OfferedSums
pub mod KeptCombinations
pub mod OfferSteps
pub mod CountedPlaces
pub mod ShareEntries
pub mod BuiltShares
