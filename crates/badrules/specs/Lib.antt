-- The definitions that the contracts of badrules cite.
pub mod Blame
