-- Laws of putting text and of decimal numbers that other rooms cite.

pub mod Put
pub mod Decimal
