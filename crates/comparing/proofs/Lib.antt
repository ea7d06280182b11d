-- Laws behind comparing's proofs.
pub mod Bound
pub mod OfModel
pub mod ComparedFiles
