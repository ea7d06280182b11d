-- How many bytes the pieces of a manifest take, by the numbers of their rows.
pub mod Size
pub mod Measured
