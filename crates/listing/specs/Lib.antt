-- The definitions that the contracts and laws of the program cite.
pub mod Weight
pub mod Output
pub mod Input
