-- The definitions that the contracts of covering cite.
pub mod Ranges
pub mod Order
pub mod Sweep
