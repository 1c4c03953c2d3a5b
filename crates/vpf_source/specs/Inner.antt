pub mod Calls
pub mod Halves
pub mod Held
pub mod Names
pub mod Sure
