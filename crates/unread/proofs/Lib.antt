-- The laws of unread.
pub mod OfFrame
pub mod Stopped
