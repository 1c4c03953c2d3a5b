pub mod Loading
pub mod TableFiles
pub mod Tileref
