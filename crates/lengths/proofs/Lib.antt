-- The laws of lengths that several proofs, or other crates, cite.
pub mod Exact
pub mod Placed
