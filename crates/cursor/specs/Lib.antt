-- The definitions that the contracts of cursor cite.
pub mod Item
