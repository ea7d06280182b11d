-- What a manifest's objects add up to, and what the code says of it.
pub mod Sums
pub mod Summed
