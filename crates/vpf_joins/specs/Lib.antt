pub mod Joining
pub mod Features
pub mod Keys
pub mod Inner
