-- What must follow a first byte of UTF-8: of no contract that a user reads.
pub mod Lead
