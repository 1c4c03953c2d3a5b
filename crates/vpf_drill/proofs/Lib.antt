pub mod WordLemmas
pub mod ListLemmas
pub mod AnswerLemmas
pub mod TiledLemmas
pub mod TreeLemmas
pub mod DrillLemmas
