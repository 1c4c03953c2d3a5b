pub mod ColumnLemmas
pub mod CountedRows
pub mod NewCellLemmas
pub mod RingLemmas
pub mod SameColumns
