-- The definitions that the contracts of exported cite.
pub mod Structs
