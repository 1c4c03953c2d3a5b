pub mod TableForms
pub mod TileTables
pub mod Inner
pub use Rattle.vpf_cut_rings.specs.Inner.Rings
