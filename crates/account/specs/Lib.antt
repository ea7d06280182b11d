-- The definitions that the contracts and the theorem of account cite.
pub mod Ranges
pub mod Account
pub mod Placed
