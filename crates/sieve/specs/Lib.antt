-- What the two passes over a manifest's objects leave.
pub mod Sieved
