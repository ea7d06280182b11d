-- The definitions that the contracts of badparts cite.
pub mod Parts
