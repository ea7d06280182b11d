pub mod Place
pub mod Verdict
pub mod Laying
