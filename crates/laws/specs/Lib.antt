-- Definitions of the laws' own.
pub mod Every
pub mod Mask
pub mod Bits
pub mod Slots
pub mod Passed
pub mod Chunks
