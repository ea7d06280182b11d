-- The definitions that the contracts of foresee cite.
pub mod Foretold
pub mod Names
pub mod Parts
