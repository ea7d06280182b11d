-- Laws behind the proofs of badnames.
pub mod Firsts
pub mod NameChecks
pub mod KeysNoted
pub mod Untested
