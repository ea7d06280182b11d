-- The definitions that the contracts of badroot, and of those who go on to the objects, cite.
pub mod Opening
