pub mod Shared
pub mod Calls
pub mod Runs
pub mod Alone
pub mod Worked
