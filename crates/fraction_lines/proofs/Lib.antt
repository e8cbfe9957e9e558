pub mod Inverting
pub mod Numbers
pub mod SpelledFractions
pub mod Passing
pub mod ReadingBack
