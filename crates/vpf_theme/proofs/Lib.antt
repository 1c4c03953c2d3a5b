mod FirstLemmas
pub mod ValueLemmas
mod HitLemmas
mod OrderLemmas
mod FaultLemmas
mod SearchLemmas
mod DataLemmas
mod EntryLemmas
mod ComparedLemmas
pub mod WalkLemmas
mod AgreeLemmas
mod AgreementLemmas
mod RepeatLemmas
mod ScanLemmas
pub mod PieceLemmas
mod HeaderLemmas
mod HeaderFaults
mod StoredLemmas
mod RowsFaults
mod SpellingLemmas
mod EntryFaults
mod Decided
