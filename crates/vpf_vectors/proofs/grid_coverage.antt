pub mod GridFacts
pub mod WalkLemmas
pub mod RowLemmas
pub mod DartLemmas
pub mod NextLemmas
pub mod NumberLemmas
pub mod CycleLemmas
