pub mod RowLemmas
pub mod PlacingLemmas
pub mod ListLemmas
pub mod FirstLemmas
pub mod DartLemmas
