-- Laws of shifts for addresses.
pub mod Shifts
