pub mod ColumnLaws
pub mod Loading
