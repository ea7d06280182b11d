-- Laws behind the proofs of sentence.
pub mod Reasons
pub mod Lines
