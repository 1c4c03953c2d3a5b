-- What is so of a coverage that `tile` cuts together with features that have a thematic index.
use Rattle.std.specs.Prelude.{◌≡◌, ℕ, IsUtf8, List, [], ◌∷◌, Some, slice_get}
use Rattle.std.specs.List.{AllByRecursion}
use Rattle.vpf_source.specs.Files.{Files, HoldsBytes}
use Rattle.vpf_source.specs.Making.{with_all}
use Rattle.vpf_table.specs.Grid.{Grid}
use Rattle.vpf_prims.specs.Tables.{TileTables}
use Rattle.vpf_feature_files.specs.Schemas.{FeatureTable, Index, Schema}
use Rattle.vpf_library_commands.specs.declared.requesting.MakeRequest.{MakeRequest}
use Rattle.vpf_library_commands.specs.Make.{make_request}
use Rattle.vpf_library_commands.specs.Tile.{TileParts}
use Rattle.vpf_library_commands.specs.TileTheorem.Tilings.Cutting.{IsCutFrom, cut_files}
use Rattle.vpf_library_commands.specs.TileTheorem.Tilings.Sources.{IsTileSource}
use Rattle.vpf_library_commands.specs.TileTheorem.Tilings.Tilings.{HasNames, StandsAlone}
use Rattle.vpf_feature_writing.specs.FeatureReading.Laws.{LacksThemes}
use Rattle.vpf_library_files.specs.Loading.Loading.{within}
use Rattle.vpf_drill.specs.Inner.Worked.Held.{worked_held}
use Rattle.vpf_drill.specs.Inner.Worked.Request.{worked_parts, worked_request, worked_tile_tables}

-- the schema table of a coverage is there, with one feature table, one of whose columns has a thematic index
pub record HasIndexedFeatures (S : Schema) : Type 0 where
  pub fcs : Grid
  pub classes : S.fcs ≡ Some fcs
  pub table : FeatureTable
  pub tables : S.tables ≡ table ∷ []
  pub column : ℕ
  pub index : Index
  pub indexed : slice_get table.indexes column ≡ Some (Some index)

-- All that is asked of what `tile` cuts, and of what it makes of that: words of text spell the request, and the tree holds bytes; it is a source, the files
-- made of it stand alone, and where they are put beside it, no thematic index is there that the features lacked. It has features with a thematic index.
pub record IsFeaturedSource (before : Files) (request : MakeRequest) (parts : TileParts) (T : TileTables) : Type 0 where
  pub words : List (List ℕ)
  pub text : AllByRecursion IsUtf8 words
  pub asked : make_request words ≡ Some request
  pub names : HasNames request
  pub bytes : HoldsBytes before
  pub source : IsTileSource before request parts T
  pub featured : HasIndexedFeatures parts.schema
  pub alone : StandsAlone before request.out (cut_files request parts T)
  pub after : Files
  pub made : with_all (cut_files request parts T) (Some before) ≡ Some after
  pub lacks : LacksThemes after (within request.out request.cov) parts.schema

-- so it is of the worked coverage
abbrev pub WorkedIsSource : Type 0
WorkedIsSource = IsFeaturedSource worked_held worked_request worked_parts worked_tile_tables

-- it may be cut
abbrev pub WorkedIsCut : Type 0
WorkedIsCut = IsCutFrom worked_held worked_request worked_parts worked_tile_tables

-- what is made of it stands alone
abbrev pub WorkedStandsAlone : Type 0
WorkedStandsAlone = StandsAlone worked_held worked_request.out (cut_files worked_request worked_parts worked_tile_tables)

-- once that is made, no thematic index is there that the features lacked
abbrev pub WorkedLacksThemes : Type 0
WorkedLacksThemes = (after : Files) → with_all (cut_files worked_request worked_parts worked_tile_tables) (Some worked_held) ≡ Some after
    → LacksThemes after (within worked_request.out worked_request.cov) worked_parts.schema
