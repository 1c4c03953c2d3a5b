pub mod SourceLemmas
pub mod CutLemmas
pub mod ReadableLemmas
pub mod WrittenLemmas
pub mod MadeLemmas
