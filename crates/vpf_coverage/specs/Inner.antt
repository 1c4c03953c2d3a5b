pub mod Coverages
pub mod Opened
pub mod Opening
