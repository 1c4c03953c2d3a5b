pub mod CarriedLemmas
pub mod RowLemmas
pub mod TileLemmas
pub mod DartLemmas
pub mod FaceLemmas
pub mod EntityLemmas
