pub mod Words
pub mod Selecting
pub mod Inner
