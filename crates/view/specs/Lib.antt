-- The definitions that the contracts of view cite.
pub mod Extents
pub mod All
