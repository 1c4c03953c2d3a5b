pub mod Progress
pub mod RowForm
pub mod Stages
pub mod Staying
pub mod Walks
