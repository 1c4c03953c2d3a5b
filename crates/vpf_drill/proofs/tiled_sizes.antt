pub mod Counting
pub mod PresentCounts
pub mod RowSizes
pub mod TableSizes
pub mod FileSizes
pub mod GridTables
pub mod GridSizes
