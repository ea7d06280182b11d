-- Laws behind put's proofs, and of pieces one after the other.
pub mod PiecesInTurn
pub mod Pieces
pub mod Names
