pub mod HeldLaws
pub mod Names
pub mod EndingLaws
