pub mod OfRows
pub mod ByModel
