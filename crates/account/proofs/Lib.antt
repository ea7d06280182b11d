-- Laws behind account's proofs, and that its parts add up.
pub mod Ranges
pub mod OfModel
pub mod AccountAnswer
