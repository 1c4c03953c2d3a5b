mod HeaderLemmas
mod RowLemmas
mod ServingLemmas
mod ScanLemmas
mod KeyLemmas
