-- The definitions that the contracts of writer cite.
pub mod WriterAnswer
pub mod Sized
