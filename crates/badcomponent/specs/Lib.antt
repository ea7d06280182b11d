-- The definitions that the contracts of badcomponent cite.
pub mod Steps
