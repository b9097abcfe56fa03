-- What the parts of the judge say to each other.
pub mod Asids
pub mod Places
pub mod Processors
