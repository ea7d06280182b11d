pub mod PassedOn
pub mod Passes
