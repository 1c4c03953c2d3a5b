pub mod Layouts
pub mod Ordering
pub mod Entries
pub mod Reading
pub mod Spelling
pub mod Findings
pub mod Agreeing
pub mod Inner
