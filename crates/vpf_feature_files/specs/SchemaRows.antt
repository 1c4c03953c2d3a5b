pub mod Items
pub mod Joins
