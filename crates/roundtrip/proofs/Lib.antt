-- Laws behind the theorems on files that are read and written, and those theorems.
pub mod If
pub mod AcceptedSpelled
pub mod ReadSmall
pub mod JudgedSized
pub mod SpelledFine
pub mod HeldFine
pub mod AcceptedJudged
pub mod AcceptedPassed
pub mod WrittenAgain
pub mod TableBack
