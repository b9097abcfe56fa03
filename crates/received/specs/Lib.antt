-- What C's records stand for.
pub mod Numbers
pub mod States
pub mod Entries
pub mod Targets
pub mod Operations
pub mod Operands
