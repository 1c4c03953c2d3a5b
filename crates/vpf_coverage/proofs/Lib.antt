pub mod PlaceLemmas
pub mod RightLemmas
pub mod TileLemmas
pub mod FileLemmas
