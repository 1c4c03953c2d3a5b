pub mod Corners
pub mod Numbers
pub mod Maps
pub mod Rows
