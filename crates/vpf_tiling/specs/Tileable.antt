pub mod Planning
pub mod Refusals
