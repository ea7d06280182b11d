-- The definitions that the contracts of badnames cite.
pub mod Keys
