-- The definitions that the contracts of keys cite.
pub mod Odd
