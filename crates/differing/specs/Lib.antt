-- The definitions that the contracts of differing cite.
pub mod Rows
pub mod Bits
