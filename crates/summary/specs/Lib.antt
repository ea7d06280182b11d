-- The definitions that the contract of summary cites.
pub mod Panel
