-- The definitions that the laws of met cite.
pub mod Met
