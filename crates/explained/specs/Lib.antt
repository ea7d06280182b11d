-- The definitions that the promise of Request 08 cites.
pub mod Fields
pub mod Lengths
pub mod Step
pub mod Notes
pub mod Order
pub mod Breaks
pub mod Explain
pub mod Promise
pub mod Sentence
pub mod Computed
pub mod Cases
