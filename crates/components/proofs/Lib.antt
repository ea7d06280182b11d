pub mod FirstFault
pub mod Units
pub mod Rows
pub mod Kept
pub mod EntryLoop
pub mod MapEnd
pub mod Walks
