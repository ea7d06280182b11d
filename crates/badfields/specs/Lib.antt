-- The definitions that the contracts of badfields, and of those who look into maps and values, cite.
pub mod Fields
