pub mod FeatureAgreement
pub mod Opened
pub mod Views
