pub mod CountLaws
pub mod Deciding
pub mod Soundness
pub mod Views
