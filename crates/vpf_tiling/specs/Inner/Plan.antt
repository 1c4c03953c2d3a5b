pub mod Laws
pub mod ReadLaws
