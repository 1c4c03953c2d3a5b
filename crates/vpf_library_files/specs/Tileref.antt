pub mod Paths
pub mod Numbered
pub mod Bounds
pub mod Tileref
pub mod Stops
