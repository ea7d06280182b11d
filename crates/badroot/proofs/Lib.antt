-- Laws behind the proofs of badroot, and those for who goes on to the objects.
pub mod OpeningFirst
pub mod Valued
pub mod Roots
