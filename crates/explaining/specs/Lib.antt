-- The definitions that the contracts of explain cite.
pub mod Judged
