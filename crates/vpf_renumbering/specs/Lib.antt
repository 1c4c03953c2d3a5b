pub use Rattle.vpf_tiling_laws.specs.Gluing.Glued
pub use Rattle.vpf_tiling_laws.specs.Gluing.Whole as TilingLawsWhole
pub mod Inner
