pub mod Counting
pub mod Check
pub mod Agreeing
pub mod Trace
pub mod Make
pub mod Tile
pub mod Glue
pub mod Gluing
pub mod Made
pub mod Keys
pub use Rattle.vpf_tiler.specs.TileFiles.Tables
pub use Rattle.vpf_tiler.specs.Inner.TiledFiles.Folders
pub use Rattle.vpf_tiler.specs.Inner.Laws as TilerLaws
pub use Rattle.vpf_tiler.specs.Making as TilerMaking
pub use Rattle.vpf_tiler.specs.Tilings
pub use Rattle.vpf_tiler.specs.CutBy
pub use Rattle.vpf_tiler.specs.Inner.TiledFiles.Names
pub use Rattle.vpf_tiler.specs.declared.errors.TileError
pub use Rattle.vpf_featured.specs.Reading
pub use Rattle.vpf_featured.specs.Finding
pub mod TileTheorem
pub mod Inner
pub use Rattle.vpf_tiler.specs.Inner.TiledFiles.PairLaws
pub use Rattle.vpf_tiler.specs.Inner.TiledFiles.WrittenLaws
pub use Rattle.vpf_feature_writing.specs.FeatureReading.Laws as FeatureReadingLaws
pub use Rattle.vpf_feature_writing.specs.Keys as FeatureWritingKeys
pub use Rattle.vpf_feature_writing.specs.Making as FeatureWritingMaking
pub use Rattle.vpf_trace.specs.Tracing as TraceTracing
pub use Rattle.vpf_trace.specs.Inner.Laws as TraceLaws
