-- Laws behind the proofs of versions.
pub mod VersionSteps
