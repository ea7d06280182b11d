-- The definitions that the contracts of layout cite: the file's bytes as the code walks the rows, by places in them. `proofs/Meant` ties them to the meaning's.
pub mod Pieces
pub mod Rows
pub mod AskedFile
