-- Laws of badrules: the branches of its functions, and what the first rule that breaks shows.
pub mod Roles
pub mod Rules
pub mod Blamed
