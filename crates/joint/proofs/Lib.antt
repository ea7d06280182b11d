-- The pieces one after the other; and that they are the writer's file of both descriptions in one.
pub mod Frames
pub mod Meant
