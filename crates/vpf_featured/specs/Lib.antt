pub mod Reading
pub mod Finding
pub mod LoadReplies
pub mod Inner
