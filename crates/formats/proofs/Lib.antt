-- The laws of formats that several proofs, or other crates, cite.
pub mod Roles
pub mod Rules
pub mod Rows
