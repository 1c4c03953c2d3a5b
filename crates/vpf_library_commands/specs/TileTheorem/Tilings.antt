pub mod Cutting
pub mod Sources
pub mod Tilings
