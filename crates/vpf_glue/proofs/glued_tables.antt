pub mod PlaceLemmas
pub mod LikeRows
pub mod TileRows
