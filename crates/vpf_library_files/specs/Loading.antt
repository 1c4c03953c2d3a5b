pub mod Loading
pub mod Holding
pub mod Loads
