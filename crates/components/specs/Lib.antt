pub mod Firsts
pub mod Typed
pub mod Row
