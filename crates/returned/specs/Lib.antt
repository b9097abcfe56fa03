-- What C gets for the answers.
pub mod Words
pub mod Known
