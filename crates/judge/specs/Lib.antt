-- What the search of the judge says.
pub mod Search
