-- Laws behind finding's proofs, and cases computed.
pub mod Turn
pub mod Sound
pub mod Rows
pub mod Cases
