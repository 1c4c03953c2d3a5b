pub mod Words
pub mod Show
pub mod Accept
pub mod Cycles
pub mod Swap
pub mod Index
pub mod Rows
pub mod Inner
