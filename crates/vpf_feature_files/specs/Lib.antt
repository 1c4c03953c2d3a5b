pub mod Schemas
pub mod Reading
pub mod Holding
pub mod SchemaRows
pub mod Inner
