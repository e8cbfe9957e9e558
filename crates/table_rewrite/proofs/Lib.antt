pub mod MeantWords
pub mod AcceptedWords
pub mod RowsLeft
pub mod LineSums
pub mod LineReplies
