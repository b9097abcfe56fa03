-- What the contracts of this room cite.
pub mod Whole
