pub mod Ranks
pub mod Presence
pub mod Tiles
pub mod Plans
pub mod Plan
pub mod Tileable
pub mod Inner
