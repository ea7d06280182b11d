-- The definitions that the contracts of panel cite.
pub mod Lines
pub mod Summary
pub mod ListedText
