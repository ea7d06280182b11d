-- What an old reader is promised to answer alike, and what alike means.
pub mod Manifests
pub mod Alike
pub mod Major
pub mod Files
