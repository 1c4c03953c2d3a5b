pub mod CountLaws
pub mod Counting
pub mod FileLaws
pub mod HeldLaws
pub mod Laws
pub mod Only
pub mod ReadLaws
pub mod StepLaws
