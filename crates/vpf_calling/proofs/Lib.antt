pub mod Learnings
pub mod Havings
