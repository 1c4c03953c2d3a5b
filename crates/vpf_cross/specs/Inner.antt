pub mod CarriedLaws
pub mod Checked
pub mod Copies
pub mod Example
pub mod Laws
pub mod LikeLaws
