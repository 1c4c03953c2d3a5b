pub mod Passing
pub mod Values
