pub mod Faults
pub mod Decided
pub mod Canonicals
