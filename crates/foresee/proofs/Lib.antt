-- Laws behind foresee's proofs.
pub mod TextLaws
pub mod DeepLaws
pub mod NamesNoted
pub mod Components
pub mod Parts
pub mod Objects
