mod LawFacts
mod LawSides
mod LawLoops
mod LawFollows
mod LawHomes
pub mod DartLemmas
pub mod HomeLemmas
pub mod ListLemmas
pub mod RowLemmas
pub mod CoverageLemmas
pub mod EdgeLines
pub mod CheckLemmas
pub mod TileLines
pub mod FollowedLemmas
pub mod CountLemmas
