pub mod Copies
pub mod Cuts
pub mod FirstLaws
pub mod Onward
pub mod Rows
pub mod Sides
pub mod WalkLaws
