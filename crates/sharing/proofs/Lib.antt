pub mod Looked
pub mod Zeroed
pub mod Lent
pub mod Drops
pub mod Loads
pub mod Laid
pub mod ByPlace
