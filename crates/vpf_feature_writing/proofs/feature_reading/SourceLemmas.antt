-- What is known of a schema that was read: each item of its schema table names the feature table that is next, or one that wasn't there.
use Rattle.std.proofs.Common.{[], ◌≡◌, ℕ, Bool, true, false, cond, List, ◌∷◌, ◌++◌, Option, Some, None, Ok, refl, subst}
use Rattle.std.specs.List.{AllByRecursion}
use Rattle.std.proofs.lemmas.Option.{same_Some}
use Rattle.vpf_source.specs.Files.{Files, HoldsBytes}
use Rattle.vpf_head.specs.Head.{varies_in}
use Rattle.vpf_findings.specs.Findings.{Disagreement}
use Rattle.vpf_findings.specs.Printing.{own_of}
use Rattle.vpf_table.specs.Grid.{Grid}
use Rattle.vpf_table.specs.Reading.{table_of}
use Rattle.vpf_library_files.specs.declared.loading.loading.LoadStop.TheVariants as stops
use Rattle.vpf_library_files.specs.Loading.Loading.{LoadedTable, Read, ◌and_then◌, read_optional, read_optional_table, within}
use Rattle.vpf_library_files.specs.Loading.Loads.{maybe}
use Rattle.vpf_library_files.specs.Inner.Loading.StepLaws.{gives, graded_is, no_value, steps, stopped, value_is}
use Rattle.vpf_tiling.specs.Plan.PlanLoads.{unless_found}
use Rattle.vpf_feature_files.specs.SchemaRows.Items.{own_file}
use Rattle.vpf_feature_files.specs.SchemaRows.Joins.{feature_items, schema_finding}
use Rattle.vpf_feature_files.specs.Reading.{looked_at, read_feature_tables, read_indexes, read_named_table, read_schema_table, schema_in, schema_name, with_indexes}
use Rattle.vpf_feature_files.specs.Schemas.{FeatureTable, Index, Schema, joins_of}
use Rattle.vpf_feature_writing.specs.FeatureReading.Laws.{IsOwnFile, IsReadSchema}
use Rattle.vpf_feature_writing.proofs.feature_reading.SourceTables.{AreNamed, IsFound, IsGrid, ReadLaws, found_is, indexes_named, read_grid, table_found}

-- ---- feature tables

-- a feature table that was read
pub record IsTableRead (src : Files) (folder : List ℕ) (table : FeatureTable) : Type 0 where
  pub there : src (within folder table.name) ≡ None → ⊥
  pub grid : IsGrid table.grid
  pub indexes : AreNamed table.grid.head.columns table.indexes

-- .. in the file that is named
pub record IsItemTable (src : Files) (folder : List ℕ) (named : Option (List ℕ)) (table : FeatureTable) : Type 0 where
  pub file : named ≡ Some table.name
  pub read : IsTableRead src folder table

-- the same of one that may be absent
abbrev pub IsItem : Files → (folder : List ℕ) → Option (List ℕ) → Option FeatureTable → Type 0
IsItem src folder named None = (file : List ℕ) → named ≡ Some file → src (within folder file) ≡ None
IsItem src folder named (Some table) = IsItemTable src folder named table

-- the feature tables are those of the items, as far as they are there
abbrev pub AreItems : Files → (folder : List ℕ) → List (List ℕ) → List FeatureTable → Type 0
AreItems src folder [] tables = [] ≡ tables
AreItems src folder (item ∷ items) tables =
    (table : Option FeatureTable) × (rest : List FeatureTable) × (maybe table ++ rest ≡ tables) × IsItem src folder (own_file item) table
    × AreItems src folder items rest

-- one that is there was read, in a file that an item names
pub record IsItemRead (src : Files) (folder : List ℕ) (table : FeatureTable) : Type 0 where
  pub own : IsOwnFile table.name
  pub read : IsTableRead src folder table

joined_read : (src : Files) (folder item : List ℕ) (table : Option FeatureTable) (rest : List FeatureTable) → IsItem src folder (own_file item) table
    → AllByRecursion (IsItemRead src folder) rest → AllByRecursion (IsItemRead src folder) (maybe table ++ rest)
joined_read src folder item None rest is all = all
joined_read src folder item (Some table) rest is all = (record { own = record { item = item; named = is.file }; read = is.read }, all)

pub tables_read : (src : Files) (folder : List ℕ) (items : List (List ℕ)) (tables : List FeatureTable) → AreItems src folder items tables
    → AllByRecursion (IsItemRead src folder) tables
tables_read src folder [] tables are = subst (AllByRecursion (IsItemRead src folder)) are tt
tables_read src folder (item ∷ items) tables are =
    subst (AllByRecursion (IsItemRead src folder)) are.2
    (joined_read src folder item are.0 are.1 are.3 (tables_read src folder items are.1 are.4))

not_named : (file : List ℕ) → None ≡ Some file → ⊥
not_named file e = cc

abbrev table_with : List ℕ → Grid → List (Option Index) → FeatureTable
table_with file grid indexes = record { name = file; grid = grid; indexes = indexes }

item_found : ReadLaws → (src : Files) (folder file : List ℕ) (found : Option LoadedTable) (n k : ℕ) (table : Option FeatureTable)
    → IsFound src (within folder file) found
    → with_indexes src folder file found n ≡ (Ok table, k) → IsItem src folder (Some file) table
item_found laws src folder file None n k table there e =
    subst (IsItem src folder (Some file)) (value_is None table n k e)
    (λ other same. subst (λ (x : List ℕ). src (within folder x) ≡ None) (same_Some file other same) there)
item_found laws src folder file (Some t) n k table there e =
    let s = steps (read_indexes src folder t.grid.head.order t.grid.head.columns n) (λ indexes m. gives (Some (table_with file t.grid indexes)) m) table k e in
    let named = indexes_named src folder t.grid.head.order t.grid.head.columns n s.1 s.0 s.2 in
    subst (IsItem src folder (Some file)) (value_is (Some (table_with file t.grid s.0)) table s.1 k s.3)
    (record { file = refl; read = record { there = there.0; grid = there.1; indexes = named } })

item_named : ReadLaws → (src : Files) (folder : List ℕ) (named : Option (List ℕ)) (n k : ℕ) (table : Option FeatureTable) → HoldsBytes src
    → read_named_table src folder named n ≡ (Ok table, k) → IsItem src folder named table
item_named laws src folder None n k table all e = subst (IsItem src folder None) (value_is None table n k e) (λ file same. absurd (not_named file same))
item_named laws src folder (Some file) n k table all e =
    let s = steps (read_optional_table src (within folder file) n) (with_indexes src folder file) table k e in
    item_found laws src folder file s.0 s.1 k table (table_found laws src (within folder file) n s.1 s.0 all s.2) s.3

items_read : ReadLaws → (src : Files) (folder : List ℕ) (items : List (List ℕ)) (n k : ℕ) (tables : List FeatureTable) → HoldsBytes src
    → read_feature_tables src folder items n ≡ (Ok tables, k) → AreItems src folder items tables
items_read laws src folder [] n k tables all e = value_is [] tables n k e
items_read laws src folder (item ∷ items) n k tables all e =
    let next = λ (table : Option FeatureTable) (m : ℕ). read_feature_tables src folder items m and_then λ rest m. gives (maybe table ++ rest) m in
    let first = steps (read_named_table src folder (own_file item) n) next tables k e in
    let rest = steps (read_feature_tables src folder items first.1) (λ rest m. gives (maybe first.0 ++ rest) m) tables k first.3 in (
      first.0,
      rest.0,
      value_is (maybe first.0 ++ rest.0) tables rest.1 k rest.3,
      item_named laws src folder (own_file item) n first.1 first.0 all first.2,
      items_read laws src folder items first.1 rest.1 rest.0 all rest.2,
    )

-- ---- the schema table

-- a schema table that was read: its rows don't vary, and its columns are there
pub record IsSchemaGrid (grid : Grid) : Type 0 where
  pub grid_is : IsGrid grid
  pub fixed : varies_in grid.head.columns ≡ false
  pub columns : schema_finding grid ≡ None

abbrev pub IsSchemaOption : Option Grid → Type 0
IsSchemaOption None = Unit {0}
IsSchemaOption (Some grid) = IsSchemaGrid grid

-- what is said of its columns
abbrev with_finding : List ℕ → Grid → Option Disagreement → ℕ → Read (Option Grid)
with_finding name grid first n = (unless_found name first (Some grid), n)

found_so : (name : List ℕ) (grid : Grid) (first : Option Disagreement) (n k : ℕ) (fcs : Option Grid) → IsGrid grid → varies_in grid.head.columns ≡ false
    → schema_finding grid ≡ first → with_finding name grid first n ≡ (Ok fcs, k) → IsSchemaOption fcs
found_so name grid None n k fcs is fixed columns e =
    subst IsSchemaOption (value_is (Some grid) fcs n k e) (record { grid_is = is; fixed = fixed; columns = columns })
found_so name grid (Some d) n k fcs is fixed columns e = absurd (no_value (stops.Finding name (own_of d)) n k fcs e)

looked_so : (name : List ℕ) (grid : Grid) (varies : Bool) (n k : ℕ) (fcs : Option Grid) → IsGrid grid → varies_in grid.head.columns ≡ varies
    → cond varies (stopped (stops.Varies name) n) (with_finding name grid (schema_finding grid) n) ≡ (Ok fcs, k) → IsSchemaOption fcs
looked_so name grid true n k fcs is fixed e = absurd (no_value (stops.Varies name) n k fcs e)
looked_so name grid false n k fcs is fixed e = found_so name grid (schema_finding grid) n k fcs is fixed refl e

schema_found : ReadLaws → (src : Files) (name : List ℕ) (found : Option (List ℕ)) (n k : ℕ) (fcs : Option Grid) → HoldsBytes src → src name ≡ found
    → schema_in name found n ≡ (Ok fcs, k) → IsSchemaOption fcs
schema_found laws src name None n k fcs all there e = subst IsSchemaOption (value_is None fcs n k e) tt
schema_found laws src name (Some bytes) n k fcs all there e =
    let g = graded_is name (looked_at name) (table_of bytes) n fcs k e in
    looked_so name g.0 (varies_in g.0.head.columns) n k fcs (read_grid laws src name bytes g.0 all there g.1) refl g.2

schema_read : ReadLaws → (src : Files) (name : List ℕ) (n k : ℕ) (fcs : Option Grid) → HoldsBytes src → read_schema_table src name n ≡ (Ok fcs, k)
    → IsSchemaOption fcs
schema_read laws src name n k fcs all e =
    let s = steps (read_optional src name n) (schema_in name) fcs k e in
    schema_found laws src name s.0 s.1 k fcs all (found_is src name n s.1 s.0 s.2) s.3

-- ---- the whole

-- a schema that was read
pub record IsSource (src : Files) (folder : List ℕ) (fcs : Option Grid) (tables : List FeatureTable) : Type 0 where
  pub schema : IsSchemaOption fcs
  pub items : AreItems src folder (feature_items (joins_of fcs)) tables

-- the schema of a schema table and feature tables
abbrev pub schema_with : Option Grid → List FeatureTable → Schema
schema_with fcs tables = record { fcs = fcs; tables = tables }

pub source_is : ReadLaws → (folder : List ℕ) (S : Schema) → (r : IsReadSchema folder S) → IsSource r.held folder S.fcs S.tables
source_is laws folder S r =
    let first = steps (read_schema_table r.held (schema_name folder) r.before)
    (λ fcs m. read_feature_tables r.held folder (feature_items (joins_of fcs)) m and_then λ tables m. gives (schema_with fcs tables) m) S r.behind r.read in
    let items = feature_items (joins_of first.0) in
    let rest = steps (read_feature_tables r.held folder items first.1) (λ tables m. gives (schema_with first.0 tables) m) S r.behind first.3 in
    subst (λ (x : Schema). IsSource r.held folder x.fcs x.tables) (value_is (schema_with first.0 rest.0) S rest.1 r.behind rest.3) (record {
      schema = schema_read laws r.held (schema_name folder) r.before first.1 first.0 r.bytes first.2;
      items = items_read laws r.held folder items first.1 rest.1 rest.0 r.bytes rest.2;
    })
