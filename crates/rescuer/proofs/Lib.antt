-- Laws behind the rescue: what the manifest's item says up to its objects' names, and spans for the bytes left; from the frame on; the checks before ROOM; then what is laid.
pub mod RootNames
pub mod FoundRoot
pub mod BeforeRoom
pub mod RescuedLaid
