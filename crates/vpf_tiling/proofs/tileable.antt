pub mod DecideLemmas
pub mod PlannedLemmas
