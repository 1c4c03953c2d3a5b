pub mod CutBy
pub mod Making
pub mod Tilings
pub mod TileFiles
pub mod Inner
pub use Rattle.vpf_primitive_tables.specs.Inner.TileWriting.Writable
