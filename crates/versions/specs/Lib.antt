-- The state of a version that is read digit by digit: of no contract that a user reads.
pub mod Room
