pub mod Darts
pub mod Cycles
pub mod Maps
pub mod MapLists
pub mod Listings
pub mod Inner
