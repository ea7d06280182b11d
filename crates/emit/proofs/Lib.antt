-- Laws behind emit's proofs.
pub mod LaidPieces
pub mod Numbers
