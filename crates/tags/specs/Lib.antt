-- What the contracts of this room cite.
pub mod Ends
pub mod Places
pub mod Rest
