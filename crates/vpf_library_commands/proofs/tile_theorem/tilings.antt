pub mod TextLemmas
pub mod ReadLemmas
pub mod MadeLemmas
pub mod SourceLemmas
pub mod TilingLemmas
pub mod SourceDeciding
mod RestLemmas
