-- The definitions that the contracts of apart cite.
pub mod Positions
