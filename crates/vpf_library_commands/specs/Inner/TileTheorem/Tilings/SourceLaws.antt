-- What is cut into tiles is an untiled coverage with its features: its tables are those of some bytes, their columns are right, and what they say is well
use Rattle.std.proofs.Common.{◌≡◌, ℕ, List, Option, None, Some, Ok, refl, ap, ◌∙◌, subst}
use Rattle.vpf_source.specs.Files.{Files, HoldsBytes}
use Rattle.vpf_source.specs.declared.file.File.{File}
use Rattle.vpf_findings.specs.Findings.{Disagreement}
use Rattle.vpf_findings.specs.Firsts.{◌or◌}
use Rattle.vpf_findings.specs.Inner.FirstLaws.{option_map-none, or-none_both}
use Rattle.vpf_prims.specs.Coverages.{CoverageTables}
use Rattle.vpf_library_files.specs.Tileref.Stops.{TilerefStop, tileref_stop}
use Rattle.vpf_library_files.specs.Loading.Loading.{LoadedCoverage, LoadedTable, LoadedTile, Read, ◌and_then◌, read_coverage, read_table, read_tile, read_tileref, tileref_name, unless_stopped, untiled_loaded, untiled_or_tiled, within}
use Rattle.vpf_tiling.specs.Plan.PlanLoads.{read_plan}
use Rattle.vpf_tiling.specs.Plan.Untiled.{read_untiled, tables_or_missing}
use Rattle.vpf_numbers.specs.TableLines.{coverage_numbers}
use Rattle.vpf_cross.specs.CrossFinding.{topology_finding}
use Rattle.vpf_features.specs.Finding.{Named}
use Rattle.vpf_feature_files.specs.Reading.{read_schema}
use Rattle.vpf_feature_files.specs.Schemas.{Schema}
use Rattle.vpf_features.specs.FeatureAgreement.Agreeing.{features_finding}
use Rattle.vpf_library_commands.specs.Finding.{featured_finding, in_its_file, placed_finding, tables_or_features_finding}
use Rattle.vpf_library_commands.specs.Reading.{FeaturedCoverage}
use Rattle.vpf_library_commands.specs.Check.{coverage_finding}
use Rattle.vpf_library_commands.specs.Tile.{TileParts, tile_parts, plan_name, read_parts, read_untiled_featured}
use Rattle.vpf_library_commands.specs.Inner.TileTheorem.Tilings.ReadLaws.{AreReadGrids, ReadsGrid as IsReadGrid, grid_read, then_ok, tile_read, OpenedIsRead}

-- an untiled coverage as it was read
pub record IsUntiledRead (files : Files) (lib cov : List ℕ) (c : LoadedCoverage) : Type 0 where
  pub tile : LoadedTile
  pub loaded : ℕ
  pub is : untiled_loaded tile ≡ c
  pub grids : AreReadGrids tile.tables
  pub read : read_coverage files lib cov 0 ≡ (Ok c, loaded)

-- its features as they were read
pub record IsSchemaRead (files : Files) (folder : List ℕ) (S : Schema) : Type 0 where
  pub before : ℕ
  pub behind : ℕ
  pub is : read_schema files folder before ≡ (Ok S, behind)

-- both
pub record IsFeaturedRead (files : Files) (lib cov : List ℕ) (read : FeaturedCoverage) : Type 0 where
  pub coverage : IsUntiledRead files lib cov read.coverage
  pub schema : IsSchemaRead files (within lib cov) read.schema

-- what was read of a tree
pub record PartsAreRead (files : Files) (lib cov : List ℕ) (parts : TileParts) : Type 0 where
  pub coverage : IsUntiledRead files lib cov parts.coverage
  pub schema : IsSchemaRead files (within lib cov) parts.schema
  pub tileref : IsReadGrid parts.tileref.grid
  pub goes_on : tileref_stop parts.tileref.grid ≡ None

untiled_read : OpenedIsRead → (files : Files) (lib cov : List ℕ) (c : LoadedCoverage) → HoldsBytes files → (read_untiled files lib cov 0).0 ≡ Ok c
    → IsUntiledRead files lib cov c
untiled_read opened files lib cov c all h =
    let t = then_ok (read_tile files (within lib cov) 0) (tables_or_missing (within lib cov)) c h in
    by t.value t.loaded t.first_is t.next_is
  where
    by : (o : Option LoadedTile) (n : ℕ) → read_tile files (within lib cov) 0 ≡ (Ok o, n) → (tables_or_missing (within lib cov) o n).0 ≡ Ok c
        → IsUntiledRead files lib cov c
    by None n first next = absurd cc
    by (Some tile) n first next =
        let same : untiled_loaded tile ≡ c = cc in
        record {
          tile = tile;
          loaded = n;
          is = same;
          grids = tile_read opened files (within lib cov) 0 tile all (ap (λ r. r.0) first);
          read = ap (λ (r : Read (Option LoadedTile)). r and_then untiled_or_tiled files lib cov) first ∙ ap (λ (x : LoadedCoverage). (Ok x, n)) same;
        }

pub source_goes_on : (name : List ℕ) (stop : Option TilerefStop) (v table : LoadedTable) (n : ℕ) → (unless_stopped name stop v n).0 ≡ Ok table
    → (stop ≡ None) × (v ≡ table)
source_goes_on name None v table n h = (refl, cc)
source_goes_on name (Some stop) v table n h = absurd cc

-- the table of tiles that was read is one of bytes, and nothing ends its reading
tileref_read : OpenedIsRead → (files : Files) (lib : List ℕ) (loaded : ℕ) (table : LoadedTable) → HoldsBytes files
    → (read_tileref files lib loaded).0 ≡ Ok table
    → IsReadGrid table.grid × (tileref_stop table.grid ≡ None)
tileref_read opened files lib loaded table all h =
    let t = then_ok (read_table files (tileref_name lib) loaded) (λ table n. unless_stopped (tileref_name lib) (tileref_stop table.grid) table n) table h in
    let g : (tileref_stop t.value.grid ≡ None) × (t.value ≡ table) = source_goes_on (tileref_name lib) (tileref_stop t.value.grid) t.value table t.loaded t.next_is in
    subst (λ (v : LoadedTable). IsReadGrid v.grid × (tileref_stop v.grid ≡ None)) g.1
    (grid_read opened files (tileref_name lib) loaded t.value all (ap (λ r. r.0) t.first_is), g.0)

-- an untiled coverage and its features that were read
featured_read : OpenedIsRead → (files : Files) (lib cov : List ℕ) (read : FeaturedCoverage) → HoldsBytes files
    → (read_untiled_featured files lib cov 0).0 ≡ Ok read → IsFeaturedRead files lib cov read
featured_read opened files lib cov read all h =
    let c = then_ok (read_untiled files lib cov 0) _ read h in
    let s = then_ok (read_schema files (within lib cov) c.loaded) _ read c.next_is in
    let same : record { coverage = c.value; schema = s.value } ≡ read = cc in
    subst (λ (r : FeaturedCoverage). IsFeaturedRead files lib cov r) same (record {
      coverage = untiled_read opened files lib cov c.value all (ap (λ r. r.0) c.first_is);
      schema = record { before = c.loaded; behind = s.loaded; is = s.first_is };
    })

-- all parts that were read
pub parts_read : OpenedIsRead → (files : Files) (lib cov : List ℕ) (parts : TileParts) → HoldsBytes files → (read_parts files lib cov 0).0 ≡ Ok parts
    → PartsAreRead files lib cov parts
parts_read opened files lib cov parts all h =
    let c = then_ok (read_untiled_featured files lib cov 0) _ parts h in
    let t = then_ok (read_tileref files lib c.loaded) _ parts c.next_is in
    let p = then_ok (read_plan files (plan_name lib cov) t.loaded) _ parts t.next_is in
    let same : tile_parts c.value t.value p.value ≡ parts = cc in
    let featured = featured_read opened files lib cov c.value all (ap (λ r. r.0) c.first_is) in
    let tiles = tileref_read opened files lib c.loaded t.value all (ap (λ r. r.0) t.first_is) in
    subst (λ (x : TileParts). PartsAreRead files lib cov x) same (record {
      coverage = featured.coverage;
      schema = featured.schema;
      tileref = tiles.0;
      goes_on = tiles.1;
    })

-- nothing is found in a coverage, nor on its features
pub record AreUnfound (folder : List ℕ) (read : FeaturedCoverage) : Type 0 where
  pub coverage : coverage_finding read.coverage.coverage ≡ None
  pub features : features_finding folder read.schema.tables ≡ None

none_placed : (files : List File) (first : Option Disagreement) → placed_finding files first ≡ None → first ≡ None
none_placed files first none = option_map-none (in_its_file files) first none

-- .. where nothing is found in both
pub unfound : (folder : List ℕ) (read : FeaturedCoverage) → featured_finding folder read ≡ None → AreUnfound folder read
unfound folder read none =
    let c : CoverageTables = read.coverage.coverage in
    let numbers : Option Named = placed_finding read.coverage.files (coverage_numbers c) in
    let both = or-none_both (tables_or_features_finding folder read) (placed_finding read.coverage.files (topology_finding c)) none in
    let tables = or-none_both numbers (features_finding folder read.schema.tables) both.0 in
    record {
      coverage = ap (λ o. o or topology_finding c) (none_placed read.coverage.files (coverage_numbers c) tables.0)
          ∙ none_placed read.coverage.files (topology_finding c) both.1;
      features = tables.1;
    }
