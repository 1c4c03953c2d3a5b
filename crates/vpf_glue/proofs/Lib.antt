pub mod SourceLemmas
pub mod EdgeLemmas
pub mod FaceLemmas
pub mod EndLemmas
pub mod EntityLemmas
pub mod AddLemmas
pub mod GlueLemmas
pub mod FormLemmas
