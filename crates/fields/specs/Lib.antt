pub mod Slots
pub mod Attributes
pub mod FieldWalk
