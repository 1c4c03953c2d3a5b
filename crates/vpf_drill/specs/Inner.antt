pub mod GridAgreement
pub mod GridCutting
pub mod Laws
pub mod TiledSizes
pub mod Traced
pub mod Trees
pub mod Worked
