-- The names that two arrays list, and what the search, the array and the table of digests say of them.
pub mod Names
pub mod Part
pub mod RisingNames
pub mod Table
