-- Laws of this room.
pub mod Number
pub mod One
pub mod Clash
