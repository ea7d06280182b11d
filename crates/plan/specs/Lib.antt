-- The definitions that the contracts of plan cite.
pub mod Earlier
