-- Laws behind the writer's proofs.
pub mod Checks
pub mod RowsThatFit
