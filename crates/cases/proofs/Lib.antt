pub mod Hold
pub mod Shuffled
pub mod ToldApart
