pub mod KnownSums
pub mod Signs
pub mod OneWord
pub mod RegularSums
