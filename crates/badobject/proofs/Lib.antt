-- Laws behind the proofs of badobject, a branch each.
pub mod Missing
pub mod Sound
pub mod Whole
