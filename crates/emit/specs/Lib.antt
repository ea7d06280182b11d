-- The definitions that the contracts of emit cite.
pub mod Laid
