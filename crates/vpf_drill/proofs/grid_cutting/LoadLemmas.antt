-- The files of the grid are read as its tables.
use Rattle.std.proofs.Common.{◌≡◌, ℕ, ◌+◌, ◌*◌, ◌≤◌, false, List, length, None, Some, Ok, refl, arith}
use Rattle.std.specs.Prelude.{codes}
use Rattle.vpf_base.specs.Limits.{most_bytes}
use Rattle.vpf_source.specs.Files.{Files}
use Rattle.vpf_head.specs.Head.{varies_in}
use Rattle.vpf_table.specs.Canonical.{canonical_table}
use Rattle.vpf_table.specs.Grid.{Grid}
use Rattle.vpf_table.specs.Reading.{table_of}
use Rattle.vpf_library_files.specs.Tileref.Stops.{tileref_stop}
use Rattle.vpf_library_files.specs.Loading.Loading.{LoadedTable, LoadedTile, loaded_tile, most_loaded, read_optional_table, read_table, read_tile, read_tileref, tileref_name, untiled_loaded, within}
use Rattle.vpf_tiling.specs.Plan.PlanLoads.{read_plan}
use Rattle.vpf_tiling.specs.Plan.Plans.{plan_finding}
use Rattle.vpf_feature_files.specs.Reading.{read_schema, schema_name}
use Rattle.vpf_feature_files.specs.Schemas.{Schema}
use Rattle.vpf_library_commands.specs.Reading.{no_features}
use Rattle.vpf_library_commands.specs.Tile.{plan_name, read_parts}
use Rattle.vpf_drill.specs.GridCutting.Held.{read_alone}
use Rattle.vpf_library_files.specs.Inner.Loading.HeldLaws.{loads_within as within_limits}

-- a tree holds the canonical file of a table whose rows are of one length, and that file is read as the table
pub record IsThere (held : Files) (name : List ℕ) (grid : Grid) : Type 0 where
  pub there : held name ≡ Some (canonical_table grid)
  pub read : table_of (canonical_table grid) ≡ Ok grid
  pub one_length : varies_in grid.head.columns ≡ false
  pub few : length (canonical_table grid) ≤ most_bytes

-- how many bytes it has
abbrev pub size : Grid → ℕ
size grid = length (canonical_table grid)

pub table_comes : (held : Files) (name : List ℕ) (grid : Grid) (m : ℕ) → IsThere held name grid → m + size grid ≤ most_loaded
    → read_table held name m ≡ (Ok (read_alone name grid), m + size grid)
table_comes held name grid m t sum = rw (t.there, within_limits name (canonical_table grid) m t.few sum, t.read, t.one_length) refl

pub option_comes : (held : Files) (name : List ℕ) (grid : Grid) (m : ℕ) → IsThere held name grid → m + size grid ≤ most_loaded
    → read_optional_table held name m ≡ (Ok (Some (read_alone name grid)), m + size grid)
option_comes held name grid m t sum = rw (t.there, within_limits name (canonical_table grid) m t.few sum, t.read, t.one_length) refl

pub none_comes : (held : Files) (name : List ℕ) (m : ℕ) → held name ≡ None → read_optional_table held name m ≡ (Ok None, m)
none_comes held name m e = rw e refl

-- the tables of a folder
pub tile_comes : (held : Files) (folder : List ℕ) (n1 n2 n3 n4 : ℕ) (edg fac rng cnd : LoadedTable)
    → read_optional_table held (within folder (codes "edg")) 0 ≡ (Ok (Some edg), n1)
    → read_table held (within folder (codes "fac")) n1 ≡ (Ok fac, n2)
    → read_table held (within folder (codes "rng")) n2 ≡ (Ok rng, n3)
    → read_table held (within folder (codes "cnd")) n3 ≡ (Ok cnd, n4)
    → read_optional_table held (within folder (codes "end")) n4 ≡ (Ok None, n4)
    → read_tile held folder 0 ≡ (Ok (Some (loaded_tile edg fac rng cnd None)), n4)
tile_comes held folder n1 n2 n3 n4 edg fac rng cnd e f r c none = rw (e, f, r, c, none) refl

-- the table of tiles, whose reading nothing ends, and the plan, which has its columns
pub tileref_comes : (held : Files) (lib : List ℕ) (grid : Grid) (m : ℕ) → IsThere held (tileref_name lib) grid → m + size grid ≤ most_loaded
    → tileref_stop grid ≡ None → read_tileref held lib m ≡ (Ok (read_alone (tileref_name lib) grid), m + size grid)
tileref_comes held lib grid m t sum none = rw (table_comes held (tileref_name lib) grid m t sum, none) refl

pub plan_comes : (held : Files) (name : List ℕ) (grid : Grid) (m : ℕ) → IsThere held name grid → m + size grid ≤ most_loaded
    → plan_finding grid ≡ None → read_plan held name m ≡ (Ok (read_alone name grid), m + size grid)
plan_comes held name grid m t sum none = rw (table_comes held name grid m t sum, none) refl

-- no schema table comes where there is none
no_schema_comes : (held : Files) (folder : List ℕ) (m : ℕ) → held (schema_name folder) ≡ None → read_schema held folder m ≡ (Ok no_features, m)
no_schema_comes held folder m e = rw e refl

-- all come: the coverage, its features, the table of tiles and the plan
pub all_come : (held : Files) (lib cov : List ℕ) (n1 n2 n3 n4 : ℕ) (tile : LoadedTile) (schema : Schema) (tileref plan : LoadedTable)
    → read_tile held (within lib cov) 0 ≡ (Ok (Some tile), n1) → read_schema held (within lib cov) n1 ≡ (Ok schema, n2)
    → read_tileref held lib n2 ≡ (Ok tileref, n3) → read_plan held (plan_name lib cov) n3 ≡ (Ok plan, n4)
    → (read_parts held lib cov 0).0 ≡ Ok (record { coverage = untiled_loaded tile; schema = schema; tileref = tileref; plan = plan })
all_come held lib cov n1 n2 n3 n4 tile schema tileref plan e f g h = rw (e, f, g, h) refl

-- a tree holds the files that are read to cut a coverage without entity nodes and without features
pub record HoldsParts (held : Files) (lib cov : List ℕ) (edg fac rng cnd tileref plan : Grid) : Type 0 where
  pub edg_there : IsThere held (within (within lib cov) (codes "edg")) edg
  pub fac_there : IsThere held (within (within lib cov) (codes "fac")) fac
  pub rng_there : IsThere held (within (within lib cov) (codes "rng")) rng
  pub cnd_there : IsThere held (within (within lib cov) (codes "cnd")) cnd
  pub no_entities : held (within (within lib cov) (codes "end")) ≡ None
  pub no_schema : held (schema_name (within lib cov)) ≡ None
  pub tileref_there : IsThere held (tileref_name lib) tileref
  pub plan_there : IsThere held (plan_name lib cov) plan
  pub goes_on : tileref_stop tileref ≡ None
  pub has_columns : plan_finding plan ≡ None

-- one more file is within what a run reads, where it is the sixth at most
room : (m k s : ℕ) → m ≤ 67108864 * k → k ≤ 5 → s ≤ 67108864 → (m + s ≤ most_loaded) × (m + s ≤ 67108864 * (k + 1))
room m k s before most few = (omega arith, omega arith)

pub parts_come : (held : Files) (lib cov : List ℕ) (edg fac rng cnd tileref plan : Grid) → HoldsParts held lib cov edg fac rng cnd tileref plan
    → (read_parts held lib cov 0).0
    ≡ Ok (record {
      coverage = untiled_loaded (loaded_tile (read_alone (within (within lib cov) (codes "edg")) edg) (read_alone (within (within lib cov) (codes "fac")) fac)
          (read_alone (within (within lib cov) (codes "rng")) rng) (read_alone (within (within lib cov) (codes "cnd")) cnd) None);
      schema = no_features;
      tileref = read_alone (tileref_name lib) tileref;
      plan = read_alone (plan_name lib cov) plan;
    })
parts_come held lib cov edg fac rng cnd tileref plan h =
    let folder = within lib cov in
    let n1 = 0 + size edg in
    let n2 = n1 + size fac in
    let n3 = n2 + size rng in
    let n4 = n3 + size cnd in
    let n5 = n4 + size tileref in
    let r1 = room 0 0 (size edg) (omega arith) (omega arith) h.edg_there.few in
    let r2 = room n1 1 (size fac) r1.1 (omega arith) h.fac_there.few in
    let r3 = room n2 2 (size rng) r2.1 (omega arith) h.rng_there.few in
    let r4 = room n3 3 (size cnd) r3.1 (omega arith) h.cnd_there.few in
    let r5 = room n4 4 (size tileref) r4.1 (omega arith) h.tileref_there.few in
    let r6 = room n5 5 (size plan) r5.1 (omega arith) h.plan_there.few in
    all_come held lib cov n4 n4 n5 (n5 + size plan) _ no_features (read_alone (tileref_name lib) tileref) (read_alone (plan_name lib cov) plan)
    (tile_comes held folder n1 n2 n3 n4 _ _ _ _ (option_comes held (within folder (codes "edg")) edg 0 h.edg_there r1.0)
    (table_comes held (within folder (codes "fac")) fac n1 h.fac_there r2.0) (table_comes held (within folder (codes "rng")) rng n2 h.rng_there r3.0)
    (table_comes held (within folder (codes "cnd")) cnd n3 h.cnd_there r4.0) (none_comes held (within folder (codes "end")) n4 h.no_entities)) (no_schema_comes held folder n4 h.no_schema)
    (tileref_comes held lib tileref n4 h.tileref_there r5.0 h.goes_on) (plan_comes held (plan_name lib cov) plan n5 h.plan_there r6.0 h.has_columns)
