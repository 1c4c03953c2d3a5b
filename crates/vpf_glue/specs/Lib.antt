pub mod Tables
pub mod GluedTables
pub mod Inner
pub use Rattle.vpf_renumbering.specs.Glued
