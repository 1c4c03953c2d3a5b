pub mod KeyLemmas
pub mod StepLemmas
