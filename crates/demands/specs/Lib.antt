-- What it is to leave one answer.
pub mod One
