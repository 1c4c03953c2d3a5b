pub mod Tables
pub mod Held
pub mod Request
pub mod Laws
