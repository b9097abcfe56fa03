-- Laws of this room.
pub mod Elsewhere
pub mod Looked
pub mod Masked
