-- What is promised of an accepted file.
pub mod Accepted
pub mod Placed
pub mod Shown
pub mod Found
pub mod Exactly
