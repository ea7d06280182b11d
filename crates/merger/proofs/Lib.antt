-- From one file's weighing to the merge: a file's answer; what two files' sums say of their merge, and its answer from them; the checks before ROOM; the merged file.
pub mod WeighedFile
pub mod SumsOfFile
pub mod SumsOfBoth
pub mod AnswerFromSums
pub mod NamesOfBoth
pub mod BeforeRoom
pub mod MergedLaid
