-- A model that stands in its file: the lengths of its blobs and entries are its description's; and from their sums where the last blob ends, and how long the manifest and the file are.
pub mod OfModel
pub mod OfSum
