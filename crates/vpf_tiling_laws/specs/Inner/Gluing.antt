pub mod Gluing
pub mod ListLaws
pub mod Renumbering
