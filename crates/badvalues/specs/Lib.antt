-- The definitions that the contracts of badvalues cite.
pub mod Steps
