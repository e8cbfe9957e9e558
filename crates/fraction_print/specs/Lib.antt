pub mod FractionTexts
