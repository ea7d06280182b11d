-- The laws of pointed.
pub mod Spans
