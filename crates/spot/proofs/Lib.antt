-- A law of refusals, for those who ask which one it is.
pub mod Told
