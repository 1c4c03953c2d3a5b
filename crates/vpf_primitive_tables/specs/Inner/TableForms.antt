pub mod ColumnLaws
pub mod CountedLaws
pub mod Models
pub mod Places
