pub mod RowIndex
pub mod Reading
pub mod Faults
pub mod Inner
