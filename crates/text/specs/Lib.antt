-- Definitions that the code needs beside those of `meaning`: what a user reads cites none of them.
pub mod Order
pub mod Digest
