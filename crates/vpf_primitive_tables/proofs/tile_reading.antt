pub mod EachLemmas
pub mod KindLemmas
pub mod OwnLemmas
pub mod RowLemmas
pub mod NumberLemmas
pub mod TableLemmas
pub mod SameLemmas
pub mod ColumnLemmas
