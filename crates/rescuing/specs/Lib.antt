-- What a rescue of a file is, and what is said of it.
pub mod Sift
pub mod Rescue
pub mod Instances
