-- The definitions that the contracts of stop cite.
pub mod Stop
