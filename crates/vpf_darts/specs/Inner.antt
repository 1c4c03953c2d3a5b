pub mod CycleLaws
pub mod DartLaws
pub mod Laws
pub mod MapError
pub mod OrbitLaws
pub mod Ranks
pub mod WithoutLaws
