pub mod Folders
pub mod Laws
