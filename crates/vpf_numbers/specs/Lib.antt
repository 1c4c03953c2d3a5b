pub mod Around
pub mod ColumnLines
pub mod RowLines
pub mod TableLines
pub mod Matching
pub mod Inner
