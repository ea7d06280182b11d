-- Theorems on what an old reader answers alike.
pub mod RowsAlike
pub mod EntriesMoved
pub mod Entries
pub mod ReadsAlike
pub mod ShownAlike
pub mod Columns
pub mod MajorRefused
pub mod NotVacuous
pub mod Shuffled
