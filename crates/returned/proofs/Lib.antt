-- Laws of the words that C gets.
pub mod Words
