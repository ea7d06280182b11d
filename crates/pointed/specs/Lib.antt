-- The definitions that the contracts of pointed cite.
pub mod Pointed
