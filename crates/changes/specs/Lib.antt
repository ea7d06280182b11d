-- The list of what changed, and what a reader holds it against.
pub mod Changes
pub mod Differs
pub mod Order
