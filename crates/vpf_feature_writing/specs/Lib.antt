pub mod Keys
pub mod Making
pub mod FeatureReading
pub mod Inner
pub use Rattle.vpf_feature_files.specs.Schemas
pub use Rattle.vpf_features.specs.FeatureAgreement.Agreeing
