pub mod Halves
pub mod RowInside
