pub mod Numbered
pub mod Answered
