-- Laws of the loops over steps, and of what a step covers.
pub mod Covering
pub mod Standing
