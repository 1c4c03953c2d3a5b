pub mod DecidingLaws
pub mod Example
pub mod TileFiles
pub mod TileTheorem
pub mod TraceLaws
