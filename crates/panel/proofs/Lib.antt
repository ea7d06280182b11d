-- Laws behind panel's proofs.
pub mod Sound
pub mod LinesInTurn
pub mod LineEnds
pub mod Answers
pub mod Columns
pub mod OfRows
pub mod Pieces
