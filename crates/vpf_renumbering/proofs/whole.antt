pub mod OrderLemmas
pub mod TurnLemmas
pub mod SignLemmas
