pub mod BeginLaws
pub mod Laws
pub mod LeastLaws
pub mod OrderLaws
pub mod PlaceLaws
pub mod Rings
