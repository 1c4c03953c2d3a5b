pub mod Checked
pub mod Deciding
