-- The definitions that the contracts of spot, and of those who look for one, cite.
pub mod Shown
