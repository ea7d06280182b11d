-- Laws behind covering's proofs.
pub mod Counts
pub mod SweepTurns
pub mod Ranges
pub mod Pivot
