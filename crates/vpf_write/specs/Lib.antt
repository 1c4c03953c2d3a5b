pub mod Writing
pub mod Made
pub mod Revise
pub mod Inner
