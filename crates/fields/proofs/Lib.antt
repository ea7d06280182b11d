pub mod MarkedSlots
pub mod Marks
pub mod Stands
pub mod Texts
pub mod Places
pub mod Snoc
pub mod AttributesAt
pub mod FieldLoop
