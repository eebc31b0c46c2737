pub mod ChainTheorems
pub mod Digits
pub mod NumberTheorems
pub mod Numerals
pub mod Positions
pub mod Quotes
pub mod Runs
pub mod Trims
