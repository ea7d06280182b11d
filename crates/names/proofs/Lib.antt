-- Laws that several proofs cite.
pub mod ListedNames
pub mod NamedParts
pub mod SortedNames
pub mod TabledNames
