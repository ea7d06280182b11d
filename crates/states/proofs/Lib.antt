pub mod Stands
pub mod Tested
