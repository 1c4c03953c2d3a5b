pub mod Having
pub mod Learning
