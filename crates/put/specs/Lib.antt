-- The definitions that the contracts of put cite.
pub mod Wrote
