-- Laws behind the proofs of entry.
pub mod EntryByIndex
