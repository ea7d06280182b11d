-- The definitions that the contracts of pairs cite.
pub mod Objects
