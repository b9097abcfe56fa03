-- Laws of this room.
pub mod Told
