-- What is promised of a file that was read and is written, or was written and is read.
pub mod Small
pub mod Sized
pub mod Again
pub mod TableBack
