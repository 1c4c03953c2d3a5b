pub mod Statuses
pub mod Commands
pub mod Indexed
pub mod Run
pub mod Grammar
pub mod Joining
pub mod Inner
