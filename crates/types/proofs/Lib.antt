-- The laws of types that several proofs, or other crates, cite.
pub mod Tell
pub mod Tagged
pub mod Named
pub mod Codes
