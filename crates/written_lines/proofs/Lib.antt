pub mod WrittenLines
