pub mod MatchedRows
pub mod Turns
