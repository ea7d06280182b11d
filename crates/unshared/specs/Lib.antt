-- Lists that share no text.
pub mod Unshared
