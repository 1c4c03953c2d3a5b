pub mod Whole
pub mod Glued
