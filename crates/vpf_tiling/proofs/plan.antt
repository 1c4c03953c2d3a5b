pub mod PlanDecides
pub mod ReadLemmas
pub mod PlanLemmas
pub mod UntiledLemmas
pub mod NamedLemmas
pub mod FirstRows
