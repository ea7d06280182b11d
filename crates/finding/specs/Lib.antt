-- The definitions that the contracts of finding cite.
pub mod Finding
pub mod Table
