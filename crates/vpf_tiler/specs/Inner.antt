pub mod Laws
pub mod TiledFiles
pub mod TiledFeatures
