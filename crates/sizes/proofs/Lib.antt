-- Laws behind the proofs of sizes.
pub mod Heads
pub mod Sums
pub mod Lengths
pub mod Exact
pub mod Turns
pub mod PlanOrNone
