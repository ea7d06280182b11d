pub mod Found
pub mod Firsts
