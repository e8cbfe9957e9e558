pub mod FirstBytes
pub mod LineFractions
pub mod FormFractions
mod TextSteps
