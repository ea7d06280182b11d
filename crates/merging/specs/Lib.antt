-- What a merge of two files is, and what is said of it.
pub mod Merge
pub mod AcceptedMerge
pub mod Anew
pub mod Instances
