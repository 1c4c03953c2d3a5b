pub mod LoadLemmas
pub mod FindingLemmas
