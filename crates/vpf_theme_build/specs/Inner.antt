pub mod BuildLaws
pub mod Writing
