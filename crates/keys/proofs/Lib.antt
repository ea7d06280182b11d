-- Laws behind the proofs of keys.
pub mod Leftmost
pub mod Parts
