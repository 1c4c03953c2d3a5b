mod AgreeLemmas
mod CarriedLemmas
mod CarryLemmas
mod CheckLemmas
mod CopyLemmas
mod DartLemmas
mod DartLists
mod Example
mod LawMap
mod LawCells
mod LawHomes
mod LawNumbered
mod LawCarried
mod LawInhabited
mod LawWalks
mod LawTurns
mod LawUnique
mod LawRounds
mod LawCopies
mod LawAgreement
mod HomeLemmas
mod LinkLemmas
mod LoopLemmas
mod NextLemmas
mod RoundLemmas
pub mod ElsewhereLemmas
pub mod LikeLemmas
pub mod LikeTiles
