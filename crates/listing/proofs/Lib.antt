-- Laws of what the program prints.
pub mod PrintedText
pub mod Weighed
pub mod ModelWeighed
pub mod Fits
pub mod Texts
pub mod ReadInto
