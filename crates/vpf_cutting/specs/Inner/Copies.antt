pub mod Laws
pub mod Lists
pub mod Placing
pub mod Presence
