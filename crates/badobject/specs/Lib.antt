-- The definitions that the contracts of badobject cite.
pub mod Owner
