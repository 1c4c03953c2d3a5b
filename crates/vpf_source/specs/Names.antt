pub mod Naming
pub mod Indexes
pub mod Folders
pub mod Items
