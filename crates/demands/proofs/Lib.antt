-- The demands, a page each: every theorem speaks of what the calls promise (calls/specs/Promises) and is drawn from the rooms below in a few lines.
pub mod Answered
pub mod Refused
pub mod Senseless
pub mod Happens
pub mod Dropped
pub mod Written
pub mod Linked
pub mod Lists
pub mod Examples
pub mod Marked
