-- Laws that other rooms cite.
pub mod Truth
pub mod Every
pub mod Below
pub mod Mask
pub mod Bits
pub mod Aligned
pub mod Slots
pub mod Chunked
pub mod Any
pub mod Clearing
pub mod Passing
pub mod Sevens
