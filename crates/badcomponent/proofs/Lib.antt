-- Laws behind the proofs of badcomponent, a branch each.
pub mod Stretch
pub mod Storage
pub mod Whole
