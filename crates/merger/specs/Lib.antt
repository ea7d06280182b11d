-- What is answered of a weighed file, what is known of two files before ROOM, and the merge's answer as the code's.
pub mod Weighed
pub mod Checked
pub mod MergedFile
