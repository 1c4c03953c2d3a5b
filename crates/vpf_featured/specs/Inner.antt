pub mod Held
pub mod LoadLaws
