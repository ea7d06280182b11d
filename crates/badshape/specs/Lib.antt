-- The definition that the contract of badshape cites.
pub mod Steps
