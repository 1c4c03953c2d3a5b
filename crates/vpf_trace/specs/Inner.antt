pub mod AgreeLaws
pub mod CheckedLaws
pub mod GatherLaws
pub mod Gathering
pub mod Laws
pub mod LineLaws
pub mod UntiledLaws
pub mod WalkLaws
