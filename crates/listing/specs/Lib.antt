-- What the contracts of this room cite beside the book.
pub mod Listed
