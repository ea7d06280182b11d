-- The definitions that the contracts of matching cite.
pub mod Named
pub mod Matched
