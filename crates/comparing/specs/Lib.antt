-- The definitions that the contracts of comparing cite.
pub mod Comparison
