-- Laws behind the proofs of badvalues, and on checks of no component.
pub mod Alone
pub mod Branches
