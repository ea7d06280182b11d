-- Laws behind the sums: what the window says of its object, and one object more.
pub mod Window
pub mod Snoc
pub mod Sums
