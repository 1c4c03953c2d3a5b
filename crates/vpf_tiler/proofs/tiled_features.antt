mod Trees
mod OwnNames
mod MadeFeatures
mod TilePaths
mod CoverageNames
mod Counting
mod TilesHeld
mod SchemaNames
mod MadeLibrary
mod OtherNames
pub mod Featured
