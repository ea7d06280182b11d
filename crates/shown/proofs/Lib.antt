-- Laws behind the theorems on accepted files, and those theorems.
pub mod Judged
pub mod FormatNumbered
pub mod Spans
pub mod ReadPlaced
pub mod Judgement
pub mod ReadingJudged
pub mod AcceptedFile
pub mod AfterReading
pub mod FoundThen
pub mod AcceptsExactly
