-- The definitions that the contracts of decimal cite.
pub mod Limbs
pub mod Decimal
pub mod Text
