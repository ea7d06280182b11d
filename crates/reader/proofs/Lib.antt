pub mod ItemFills
pub mod Manifests
pub mod Frames
pub mod RootParts
pub mod Answers
