-- Laws behind the proofs of badparts.
pub mod Early
pub mod Alike
pub mod Blames
pub mod Entries
pub mod Whole
