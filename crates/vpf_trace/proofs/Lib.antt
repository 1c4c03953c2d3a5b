pub mod UntiledLemmas
pub mod LineLemmas
pub mod AgreeLemmas
pub mod GatherLemmas
pub mod WalkLemmas
pub mod MarkLemmas
