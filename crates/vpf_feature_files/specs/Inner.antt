pub mod Held
pub mod Laws
pub mod Loads
pub mod SchemaRows
