pub mod AddLaws
pub mod Adding
pub mod FeatureReading
