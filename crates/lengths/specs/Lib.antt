-- The definitions that the contracts of lengths cite.
pub mod Place
