-- Laws behind the proofs of layout.
pub mod InOrder
pub mod Present
pub mod RowLoop
pub mod Turns
pub mod Frames
pub mod Meant
pub mod Fit
pub mod Whole
pub mod BlobOver
