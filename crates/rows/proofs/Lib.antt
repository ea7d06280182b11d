-- Laws about the writer's rows: each row by its place, and what is asked of it.
pub mod Both
pub mod EachRow
pub mod Judged
pub mod Owners
pub mod Whole
pub mod Turns
pub mod SoundRow
pub mod Describes
pub mod Steps
