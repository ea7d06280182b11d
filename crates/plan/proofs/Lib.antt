-- Laws behind the proofs of plan.
pub mod Tests
pub mod Turns
