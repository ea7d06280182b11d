pub mod Versions
pub mod Verdicts
pub mod Walks
