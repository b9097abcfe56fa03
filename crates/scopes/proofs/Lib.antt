-- Laws of this room.
pub mod Eight
