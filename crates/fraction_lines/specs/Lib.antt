pub mod FractionLines
