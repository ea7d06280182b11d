-- The bytes of two files in one, by places in their rows.
pub mod Joint
