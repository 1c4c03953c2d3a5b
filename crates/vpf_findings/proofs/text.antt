pub mod WordLemmas
pub mod PlainLemmas
