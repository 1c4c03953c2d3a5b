-- What is read of a tree that holds an untiled coverage with one feature table and one thematic index.
use Rattle.std.proofs.Common.{◌≡◌, ℕ, ◌+◌, ◌≤◌, List, [], ◌∷◌, length, Option, None, Some, Ok, refl}
use Rattle.std.specs.Prelude.{option_and_then}
use Rattle.vpf_base.specs.Limits.{most_bytes}
use Rattle.vpf_base.specs.declared.orders.Order.{Order}
use Rattle.vpf_source.specs.Files.{Files}
use Rattle.vpf_head.specs.Head.{Col}
use Rattle.vpf_table.specs.Grid.{Grid}
use Rattle.vpf_theme.specs.Reading.{theme_of}
use Rattle.vpf_library_files.specs.Loading.Loading.{LoadedTable, most_loaded, read_optional_table, within}
use Rattle.vpf_library_files.specs.Inner.Loading.HeldLaws.{loads_within as within_limits}
use Rattle.vpf_feature_files.specs.Reading.{read_feature_tables, read_index, read_indexes, read_schema, read_schema_table, schema_name}
use Rattle.vpf_feature_files.specs.SchemaRows.Items.{own_file}
use Rattle.vpf_feature_files.specs.SchemaRows.Joins.{feature_items, schema_finding}
use Rattle.vpf_feature_files.specs.Schemas.{FeatureTable, Index, joins_of}
use Rattle.vpf_drill.proofs.grid_cutting.LoadLemmas.{IsThere, size}

-- the schema table comes
pub classes_come : (held : Files) (folder : List ℕ) (grid : Grid) (m : ℕ) → IsThere held (schema_name folder) grid → m + size grid ≤ most_loaded
    → schema_finding grid ≡ None → read_schema_table held (schema_name folder) m ≡ (Ok (Some grid), m + size grid)
classes_come held folder grid m t sum none = rw (t.there, within_limits (schema_name folder) _ m t.few sum, t.read, t.one_length, none) refl

-- a column names no thematic index
pub no_index : (held : Files) (folder : List ℕ) (order : Order) (column : Col) (m : ℕ) → column.theme ≡ None
    → read_index held folder order column m ≡ (Ok None, m)
no_index held folder order column m e = rw e refl

-- a thematic index in a file of the folder
pub record IsIndexThere (held : Files) (folder : List ℕ) (order : Order) (column : Col) (index : Index) (bytes : List ℕ) : Type 0 where
  pub named : option_and_then own_file column.theme ≡ Some index.file
  pub there : held (within folder index.file) ≡ Some bytes
  pub read : theme_of order bytes ≡ Ok index.theme
  pub few : length bytes ≤ most_bytes

-- it comes
pub index_comes : (held : Files) (folder : List ℕ) (order : Order) (column : Col) (index : Index) (bytes : List ℕ) (m : ℕ)
    → IsIndexThere held folder order column index bytes → m + length bytes ≤ most_loaded
    → read_index held folder order column m ≡ (Ok (Some index), m + length bytes)
index_comes held folder order column index bytes m t sum =
    rw (t.named, t.there, within_limits (within folder index.file) bytes m t.few sum, t.read) refl

-- the thematic indexes of two columns come
pub indexes_come : (held : Files) (folder : List ℕ) (order : Order) (first second : Col) (a b : Option Index) (n1 n2 n3 : ℕ)
    → read_index held folder order first n1 ≡ (Ok a, n2) → read_index held folder order second n2 ≡ (Ok b, n3)
    → read_indexes held folder order (first ∷ second ∷ []) n1 ≡ (Ok (a ∷ b ∷ []), n3)
indexes_come held folder order first second a b n1 n2 n3 e f = rw (e, f) refl

-- one feature table comes, with its indexes
pub feature_comes : (held : Files) (folder item file : List ℕ) (table : LoadedTable) (indexes : List (Option Index)) (n1 n2 n3 : ℕ) → own_file item ≡ Some file
    → read_optional_table held (within folder file) n1 ≡ (Ok (Some table), n2)
    → read_indexes held folder table.grid.head.order table.grid.head.columns n2 ≡ (Ok indexes, n3)
    → read_feature_tables held folder (item ∷ []) n1 ≡ (Ok (record { name = file; grid = table.grid; indexes = indexes } ∷ []), n3)
feature_comes held folder item file table indexes n1 n2 n3 named e f = rw (named, e, f) refl

-- the features come
pub schema_comes : (held : Files) (folder : List ℕ) (fcs : Grid) (items : List (List ℕ)) (tables : List FeatureTable) (n1 n2 n3 : ℕ)
    → read_schema_table held (schema_name folder) n1 ≡ (Ok (Some fcs), n2) → feature_items (joins_of (Some fcs)) ≡ items
    → read_feature_tables held folder items n2 ≡ (Ok tables, n3) → read_schema held folder n1 ≡ (Ok (record { fcs = Some fcs; tables = tables }), n3)
schema_comes held folder fcs items tables n1 n2 n3 e named f = rw (e, named, f) refl
