-- The laws of met.
pub mod Deeper
pub mod Honest
