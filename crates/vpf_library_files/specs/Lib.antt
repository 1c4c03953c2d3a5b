pub mod Tileref
pub mod Loading
pub mod TableFiles
pub mod Inner
