-- Laws behind the search, and that two lists of distinct names are distinct together if they share none.
pub mod Together
pub mod Sought
