pub mod Laws
pub mod MadeLaws
pub mod ReadLaws
pub mod SourceLaws
