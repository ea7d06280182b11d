-- Definitions that contracts and laws about the writer's rows cite.
pub mod Placed
pub mod Owner
pub mod Turns
