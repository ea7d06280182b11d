pub mod Values
pub mod Pieces
pub mod Entries
pub mod Sound
pub mod Verdicts
pub mod MapOrNot
