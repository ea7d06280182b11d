-- Laws behind the proofs of stop.
pub mod Stuck
pub mod Heads
pub mod Turns
pub mod Held
