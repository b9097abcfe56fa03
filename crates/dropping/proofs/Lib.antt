-- Laws of this room.
pub mod Apart
pub mod Keyed
