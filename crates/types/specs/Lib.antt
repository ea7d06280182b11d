-- The definitions that the contracts of types cite.
pub mod Row
pub mod Known
