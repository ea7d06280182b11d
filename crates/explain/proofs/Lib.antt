-- The laws of explain.
pub mod OwnCheck
