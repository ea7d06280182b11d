pub mod Scale
pub mod Glue
pub mod Units
pub mod Powers
pub mod DigitsCut
pub mod Letters
pub mod Believed
pub mod Cases
