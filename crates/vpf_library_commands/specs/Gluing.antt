-- What `glue` is done of: a coverage in tiles that agrees with its features (MIL-STD-2407, 5.2.3, tiled coverages, cross-tile topology and feature
-- classes).
use Rattle.std.specs.Prelude.{◌≡◌, List, ◌++◌, map, Some, Ok}
use Rattle.vpf_source.specs.Files.{Files, HoldsBytes}
use Rattle.vpf_source.specs.declared.file.File.{File}
use Rattle.vpf_prims.specs.Libraries.{library_of}
use Rattle.vpf_prims.specs.Reading.{PrimitiveTables, primitives_of}
use Rattle.vpf_library_files.specs.Loading.Holding.{AreTiledFiles}
use Rattle.vpf_glue.specs.Glued.{glued}
use Rattle.vpf_glue.specs.GluedTables.Grids.{first_tables, glued_tables}
use Rattle.vpf_glue.specs.Tables.{glued_made}
use Rattle.vpf_replies.specs.declared.verdict.Verdict.TheVariants.{Done}
use Rattle.vpf_feature_writing.specs.Making.{features_made}
use Rattle.vpf_featured.specs.Reading.{FeaturedCoverage}
use Rattle.vpf_library_commands.specs.declared.checking.CheckRequest.{CheckRequest}
use Rattle.vpf_library_commands.specs.declared.requesting.MakeRequest.{MakeRequest}
use Rattle.vpf_library_commands.specs.Agreeing.{IsAgreeing}
use Rattle.vpf_library_commands.specs.Glue.{glue_answer}
use Rattle.vpf_library_commands.specs.Made.{file_within}

-- the coverage that is glued, as `check` is asked for it
abbrev pub glued_request : MakeRequest → CheckRequest
glued_request request = record { lib = request.lib; cov = request.cov }

-- A coverage in tiles agrees with its features, and these files are made of it: first its tables, like those of its first tile, which say the coverage that
-- its tiles are glued to, between the table of tiles of its library and the plan that names the tile of each face; then those of its features.
pub record IsGluing (before : Files) (request : MakeRequest) (made : List File) : Type 0 where
  pub read : FeaturedCoverage
  pub agrees : IsAgreeing before (glued_request request) read
  pub tiled : AreTiledFiles request.lib request.cov read.coverage.coverage read.coverage.files
  pub says : (first : PrimitiveTables) → first_tables read.coverage.coverage ≡ Some first
      → primitives_of (glued_tables first read.coverage.coverage) ≡ glued (library_of read.coverage.coverage)
  pub tables : List File
  pub tables_are : glued_made request.cov read.coverage.coverage tiled.tileref ≡ Ok tables
  pub features : List File
  pub features_are : features_made request.cov read.schema ≡ Ok features
  pub are : made ≡ map (file_within request.out) (tables ++ features)

-- where `glue` is done over files of bytes, it is done of such a coverage
abbrev pub GlueDecides : Type 0
GlueDecides = (files : Files) (request : MakeRequest) → HoldsBytes files → (glue_answer files request).verdict ≡ Done
    → IsGluing files request (glue_answer files request).made
