pub mod Causes
pub mod Files
pub mod Loading
pub mod Making
pub mod Writing
pub mod Names
pub mod Inner
