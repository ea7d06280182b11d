-- The definitions that the contracts of entry cite.
pub mod Nth
