-- Laws on the first check that breaks, for whoever ties code to the order of checks.
pub mod Firsts
pub mod Values
pub mod Entries
pub mod Maps
pub mod Opened
