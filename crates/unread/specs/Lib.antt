-- The definitions that the contracts of unread cite.
pub mod Unread
