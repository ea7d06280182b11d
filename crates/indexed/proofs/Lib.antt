-- The laws of indexed.
pub mod Chained
pub mod Named
