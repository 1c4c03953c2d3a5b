pub mod Gathering
pub mod Turning
