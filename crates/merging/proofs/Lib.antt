-- Laws about merges: what a merged file says, Request 13's three, and what a merge answers without a reading of the merged file.
pub mod Algebra
pub mod SaysFine
pub mod MergedReadsBack
pub mod Groups
pub mod Rewritten
pub mod MergedJudged
pub mod MergeAnswers
pub mod Computed
