-- Laws behind the proofs of utf8.
pub mod Utf8Steps
pub mod AsciiWords
pub mod CharEnds
