pub mod RowLemmas
pub mod WingLemmas
pub mod PlacedLemmas
pub mod OwnLemmas
pub mod EdgeLemmas
