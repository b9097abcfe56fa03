-- Laws of this room.
pub mod Reading
