mod ItemLemmas
mod RowLemmas
mod ListLemmas
mod LeftLemmas
