pub mod Lines
pub mod Finding
pub use Rattle.vpf_feature_files.specs.Reading
pub use Rattle.vpf_feature_files.specs.Schemas
pub mod FeatureAgreement
pub mod Inner
