pub mod Kept
pub mod Opens
pub mod EachCall
pub mod Left
pub mod Unheard
pub mod Works
pub mod Writes
pub mod Rooms
