pub mod Grouping
pub mod Text
pub mod Building
pub mod Inner
