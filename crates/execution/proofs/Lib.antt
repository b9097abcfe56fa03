-- Laws of this room.
pub mod Sound
