pub mod Heads
pub mod Tables
pub mod Library
pub mod Cells
pub mod Inner
