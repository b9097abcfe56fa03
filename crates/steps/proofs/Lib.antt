-- Laws of this room.
pub mod Holding
pub mod Loops
