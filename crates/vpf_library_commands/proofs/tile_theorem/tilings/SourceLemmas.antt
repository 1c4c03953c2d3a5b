-- What is cut into tiles is an untiled coverage with its features: its tables are those of some bytes, their columns are right, and what they say is well
-- formed; its features were read, and agree.
use Rattle.std.proofs.Common.{◌≡◌, ℕ, List, Some, refl, sym, ap, ◌∙◌, subst}
use Rattle.vpf_source.specs.Files.{Files, HoldsBytes}
use Rattle.vpf_prims.specs.Coverages.{tile_at}
use Rattle.vpf_prims.specs.Libraries.{library_of}
use Rattle.vpf_prims.specs.Primitives.{Library, Primitives, untiled}
use Rattle.vpf_prims.specs.Reading.{PrimitiveTables, primitives_of}
use Rattle.vpf_prims.specs.Suiting.{HasColumns}
use Rattle.vpf_prims.specs.Tables.{TileTables}
use Rattle.vpf_library_files.specs.Inner.Tileref.Laws.{StopsDecide}
use Rattle.vpf_library_files.specs.Tileref.Stops.{IsBounded}
use Rattle.vpf_library_files.specs.Tileref.Tileref.{IsTileref}
use Rattle.vpf_library_files.specs.Loading.Loading.{LoadedCoverage, within}
use Rattle.vpf_wing.specs.WellFormed.{IsWellFormed}
use Rattle.vpf_cross.specs.Agreeing.{LibraryAgrees}
use Rattle.vpf_numbers.specs.Matching.{HaveColumns}
use Rattle.vpf_features.specs.FeatureAgreement.Agreeing.{FeaturesAgree, FeaturesDecide}
use Rattle.vpf_feature_writing.specs.FeatureReading.Laws.{IsReadSchema}
use Rattle.vpf_library_commands.specs.declared.requesting.MakeRequest.{MakeRequest}
use Rattle.vpf_library_commands.specs.Agreeing.{CoverageDecides}
use Rattle.vpf_library_commands.specs.Tile.{TileParts, featured_in}
use Rattle.vpf_library_commands.specs.TileTheorem.Tilings.Cutting.{IsCutFrom}
use Rattle.vpf_library_commands.specs.Inner.TileTheorem.Tilings.ReadLaws.{AreReadGrids, ReadsGrid as IsReadGrid, OpenedIsRead}
use Rattle.vpf_library_commands.specs.Inner.TileTheorem.Tilings.SourceLaws.{unfound, parts_read}
use Rattle.vpf_library_commands.proofs.Example.{library_alone}

-- ---- what is so of the source

-- the tables of an untiled coverage, the table of tiles, and what is so of them
pub record IsSource (T : PrimitiveTables) (parts : TileParts) : Type 0 where
  pub columns : HasColumns T
  pub grids : AreReadGrids T
  pub well_formed : IsWellFormed (primitives_of T)
  pub tileref : IsTileref parts.tileref.grid
  pub bounded : IsBounded parts.tileref.grid
  pub tileref_grid : IsReadGrid parts.tileref.grid
  pub folder : List ℕ
  pub read : IsReadSchema folder parts.schema
  pub agree : FeaturesAgree parts.schema

well_formed : (c : Primitives) (L : Library) → L ≡ untiled c → LibraryAgrees L → IsWellFormed c
well_formed c L same agrees =
    let own : LibraryAgrees (untiled c) = subst LibraryAgrees same agrees in
    record { numbered = own.numbered 0 refl; loops = own.loops; cycles = own.cycles 0 refl }

pub some_tables : (a b : TileTables) → Some a ≡ Some b → a ≡ b
some_tables a b e = cc

-- what is cut into tiles is an untiled coverage that agrees with its features
pub source : OpenedIsRead → StopsDecide → CoverageDecides → FeaturesDecide → (files : Files) (request : MakeRequest) (parts : TileParts) (T : TileTables)
    → HoldsBytes files → IsCutFrom files request parts T → IsSource T.tables parts
source opened stops check decide files request parts T all cut =
    let r = parts_read opened files request.lib request.cov parts all cut.read in
    let folder : List ℕ = within request.lib request.cov in
    let none = unfound folder (featured_in parts) cut.agrees in
    let agrees : HaveColumns parts.coverage.coverage × LibraryAgrees (library_of parts.coverage.coverage) =
    (check files request.lib request.cov parts.coverage r.coverage.loaded all r.coverage.read).0 none.coverage in
    let own : TileTables = record { first = 0; tables = r.coverage.tile.tables } in
    let same : own ≡ T = some_tables own T (ap (λ (c : LoadedCoverage). tile_at c.coverage 0) r.coverage.is ∙ cut.tables) in
    let library : library_of parts.coverage.coverage ≡ untiled (primitives_of T.tables) =
    sym (ap (λ (c : LoadedCoverage). library_of c.coverage) r.coverage.is) ∙ library_alone own
    ∙ ap (λ (t : TileTables). untiled (primitives_of t.tables)) same in
    let tiles : IsTileref parts.tileref.grid × IsBounded parts.tileref.grid = (stops parts.tileref.grid).0 r.goes_on in
    record {
      columns = agrees.0.suit 0 T cut.tables;
      grids = subst (λ (t : TileTables). AreReadGrids t.tables) same r.coverage.grids;
      well_formed = well_formed (primitives_of T.tables) (library_of parts.coverage.coverage) library agrees.1;
      tileref = tiles.0;
      bounded = tiles.1;
      tileref_grid = r.tileref;
      folder = folder;
      read = record { held = files; bytes = all; before = r.schema.before; behind = r.schema.behind; read = r.schema.is };
      agree = (decide files folder r.schema.before r.schema.behind parts.schema r.schema.is).0 none.features;
    }
