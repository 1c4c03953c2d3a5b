pub mod Request
pub mod Digest
pub mod Counting
pub mod Numbers
pub mod Drill
pub mod GridCutting
pub use Rattle.vpf_library_commands.specs.TileTheorem.Tilings.Cutting
pub use Rattle.vpf_library_commands.specs.TileTheorem.Tilings.Tilings
pub use Rattle.vpf_library_commands.specs.Inner.TileTheorem.Tilings.Laws as TileTheoremLaws
pub mod Inner
