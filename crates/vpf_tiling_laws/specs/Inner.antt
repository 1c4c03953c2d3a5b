pub mod Gluing
pub mod Tiled
