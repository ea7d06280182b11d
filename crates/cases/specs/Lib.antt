pub mod Files
pub mod Table
pub mod Unlisted
pub mod Old
