pub mod NameNoted
pub mod NamesJudged
pub mod Entries
