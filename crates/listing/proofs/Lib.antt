-- Laws of the listing that other rooms cite.
pub mod Shown
pub mod Walk
pub mod Pieces
pub mod Longest
