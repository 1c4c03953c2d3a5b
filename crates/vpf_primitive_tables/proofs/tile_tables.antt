pub mod TileLemmas
pub mod FormLemmas
