pub mod TileLemmas
pub mod LibraryLemmas
