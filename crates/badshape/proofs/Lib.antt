-- Laws behind the proof of badshape.
pub mod Elements
