-- Laws of this room.
pub mod Crm
