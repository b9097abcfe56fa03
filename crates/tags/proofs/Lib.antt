-- Laws of what stands in a tag.
pub mod Numbers
pub mod Parts
pub mod Eights
pub mod Places
