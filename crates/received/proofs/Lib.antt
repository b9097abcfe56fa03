-- Laws of what C's records stand for.
pub mod Fits
pub mod Unfit
