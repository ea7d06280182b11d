-- The laws of explaining.
pub mod Bare
pub mod Within
pub mod Words
pub mod FromReading
pub mod Answers
pub mod Inside
pub mod Sentence
