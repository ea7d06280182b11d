-- The definitions that the laws of indexed cite.
pub mod Entry
