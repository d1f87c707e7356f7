pub mod PassedWords
