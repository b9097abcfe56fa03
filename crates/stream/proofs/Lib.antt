-- Laws of this room.
pub mod Owed
