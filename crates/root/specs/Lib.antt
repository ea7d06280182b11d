pub mod Walk
pub mod Verdict
