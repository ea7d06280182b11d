pub mod Few
pub mod OneObject
pub mod FirstFault
pub mod Laying
pub mod EntryLoop
pub mod MapEnd
pub mod Walks
