-- Laws behind what is said of lent bytes.
pub mod Bytes
