-- Laws that several proofs cite, of this crate and of those above it.
pub mod SameIsEqual
pub mod OrderIsTotal
pub mod OrderByStd
pub mod WordsDecide
pub mod DigestSteps
pub mod WithinRange
pub mod LittleEndian
