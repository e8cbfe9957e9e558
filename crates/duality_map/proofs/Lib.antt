pub mod DualLetters
pub mod DualOrder
