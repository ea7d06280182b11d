-- Laws behind view's proofs, and the view of a table with a model's rows.
pub mod Parts
pub mod Extents
pub mod Columns
pub mod OfRows
