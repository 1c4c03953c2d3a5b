pub mod NameLemmas
pub mod PathLemmas
pub mod CoverageLemmas
pub mod FolderLemmas
pub mod LoopLemmas
pub mod OpenLemmas
pub mod TileLemmas
pub mod CountLemmas
