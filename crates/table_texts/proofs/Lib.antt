pub mod ShownTexts
pub mod CheckedTexts
