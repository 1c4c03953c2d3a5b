-- The features of a coverage that a tree holds are read.
use Rattle.std.proofs.Common.{[], ◌≡◌, ℕ, ◌+◌, ◌≤◌, false, List, ◌∷◌, ◌++◌, length, Option, Some, None, Ok, refl, sym, ap, subst, arith}
use Rattle.std.specs.Prelude.{option_and_then}
use Rattle.std.specs.List.{flat_map}
use Rattle.vpf_base.specs.Limits.{most_bytes}
use Rattle.vpf_base.specs.declared.orders.Order.{Order}
use Rattle.vpf_source.specs.Files.{Files}
use Rattle.vpf_source.specs.declared.file.File.{File}
use Rattle.vpf_findings.specs.Findings.{Disagreement}
use Rattle.vpf_head.specs.Head.{Col, varies_in}
use Rattle.vpf_table.specs.Grid.{Grid}
use Rattle.vpf_table.specs.Spans.{IsOpened}
use Rattle.vpf_theme.specs.Spelling.{IsThematicIndex}
use Rattle.vpf_library_files.specs.Loading.Holding.{AreHeld, bytes_in}
use Rattle.vpf_library_files.specs.Loading.Loading.{Read, most_loaded, read_optional_table, within}
use Rattle.vpf_library_files.specs.Loading.Loads.{maybe}
use Rattle.vpf_library_files.specs.Inner.Loading.FileLaws.{both_held, bytes_of_both}
use Rattle.vpf_library_files.specs.Inner.Loading.HeldLaws.{counted_so}
use Rattle.vpf_tiling.specs.Plan.PlanLoads.{unless_found}
use Rattle.vpf_feature_files.specs.Holding.{AreFcsFiles, AreItemFiles, AreItemsFiles, AreThemeFiles, AreThemesFiles, LacksNamed, LacksOfColumn, LacksOfColumns, LacksOfItem, LacksOfItems}
use Rattle.vpf_feature_files.specs.Inner.Laws.{ClassSchemasDecide, HeldSchemaIsRead}
use Rattle.vpf_feature_files.specs.Reading.{looked_at, read_feature_tables, read_index, read_indexes, read_named_index, read_named_table, read_schema, read_schema_table, schema_name}
use Rattle.vpf_feature_files.specs.SchemaRows.Items.{own_file}
use Rattle.vpf_feature_files.specs.SchemaRows.Joins.{feature_items, schema_finding}
use Rattle.vpf_feature_files.specs.Schemas.{FeatureTable, Index, Schema, joins_of}
use Rattle.vpf_library_files.specs.Inner.Loading.HeldLaws.{table_of_grid}
use Rattle.vpf_feature_files.proofs.laws.HeldTables.{file_held, table_held}
use Rattle.vpf_feature_files.proofs.laws.KnownLaws.{SpelledAreRead}

-- ---- files in two parts

record HeldParts (held : Files) (here rest files : List File) (m : ℕ) : Type 0 where
  here_there : AreHeld held here
  rest_there : AreHeld held rest
  here_few : m + bytes_in here ≤ most_loaded
  rest_few : m + bytes_in here + bytes_in rest ≤ most_loaded
  sum : m + bytes_in here + bytes_in rest ≡ m + bytes_in files

parts_held : (held : Files) (here rest files : List File) (m : ℕ) → files ≡ here ++ rest → AreHeld held files → m + bytes_in files ≤ most_loaded
    → HeldParts held here rest files m
parts_held held here rest files m are there few =
    let both = both_held held here rest (subst (AreHeld held) are there) in
    let whole = ap bytes_in are in
    let sum = bytes_of_both here rest in
    record {
      here_there = both.0;
      rest_there = both.1;
      here_few = omega (arith, few, whole, sum);
      rest_few = omega (arith, few, whole, sum);
      sum = omega (arith, whole, sum);
    }

-- where there are no files none are counted
none_counted : (files : List File) (m : ℕ) → files ≡ [] → m ≡ m + bytes_in files
none_counted files m are = let none = ap bytes_in are in omega (arith, none)

-- ---- thematic indexes

none_named : (held : Files) (folder : List ℕ) (order : Order) (named : Option (List ℕ)) (m : ℕ) → LacksNamed held folder named
    → read_named_index held folder order named m ≡ (Ok None, m)
none_named held folder order None m lacks = refl
none_named held folder order (Some file) m lacks = rw lacks refl

one_named : SpelledAreRead → (held : Files) (folder : List ℕ) (order : Order) (named : Option (List ℕ)) (index : Index) (bytes : List ℕ) (m : ℕ)
    → named ≡ Some index.file → IsThematicIndex order index.theme bytes → held (within folder index.file) ≡ Some bytes → length bytes ≤ most_bytes
    → m + length bytes ≤ most_loaded → read_named_index held folder order named m ≡ (Ok (Some index), m + length bytes)
one_named laws held folder order named index bytes m is spelled there few sum =
    rw (is, file_held held (within folder index.file) bytes m there few sum, laws.theme order index.theme bytes spelled) refl

index_held : SpelledAreRead → (held : Files) (folder : List ℕ) (order : Order) (column : Col) (index : Option Index) (files : List File) (m : ℕ)
    → AreThemeFiles folder order column index files → AreHeld held files → LacksOfColumn held folder column index → m + bytes_in files ≤ most_loaded
    → read_index held folder order column m ≡ (Ok index, m + bytes_in files)
index_held laws held folder order column None files m are there lacks few =
    counted_so (read_index held folder order column m) None m (m + bytes_in files)
    (none_named held folder order (option_and_then own_file column.theme) m lacks)
    (none_counted files m are)
index_held laws held folder order column (Some index) files m a h lacks few =
    let there = rw a.are at h in
    let all = rw a.are at few in
    let sum : m + length a.bytes ≡ m + (length a.bytes + 0) = omega arith in
    let read = one_named laws held folder order (option_and_then own_file column.theme) index a.bytes m a.named a.spelled there.0 there.1
    (omega (arith, all)) in
    rw a.are (counted_so (read_index held folder order column m) (Some index) (m + length a.bytes) (m + (length a.bytes + 0)) read sum)

one_index_more : (held : Files) (folder : List ℕ) (order : Order) (column : Col) (columns : List Col) (index : Option Index) (indexes : List (Option Index))
    (m n k : ℕ)
    → read_index held folder order column m ≡ (Ok index, n) → read_indexes held folder order columns n ≡ (Ok indexes, k)
    → read_indexes held folder order (column ∷ columns) m ≡ (Ok (index ∷ indexes), k)
one_index_more held folder order column columns index indexes m n k e f = rw (e, f) refl

indexes_held : SpelledAreRead
    → (held : Files) (folder : List ℕ) (order : Order) (columns : List Col) (indexes : List (Option Index)) (files : List File) (m : ℕ)
    → AreThemesFiles folder order columns indexes files → AreHeld held files → LacksOfColumns held folder columns indexes → m + bytes_in files ≤ most_loaded
    → read_indexes held folder order columns m ≡ (Ok indexes, m + bytes_in files)
indexes_held laws held folder order [] [] files m are there lacks few =
    counted_so (read_indexes held folder order [] m) [] m (m + bytes_in files) refl (none_counted files m are)
indexes_held laws held folder order [] (index ∷ indexes) files m are there lacks few = absurd are
indexes_held laws held folder order (column ∷ columns) [] files m are there lacks few = absurd are
indexes_held laws held folder order (column ∷ columns) (index ∷ indexes) files m are there lacks few =
    let here = are.0 in
    let rest = are.1 in
    let n = m + bytes_in here in
    let p = parts_held held here rest files m are.2 there few in
    let first = index_held laws held folder order column index here m are.3 p.here_there lacks.0 p.here_few in
    let others = indexes_held laws held folder order columns indexes rest n are.4 p.rest_there lacks.1 p.rest_few in
    counted_so (read_indexes held folder order (column ∷ columns) m) (index ∷ indexes) (n + bytes_in rest) (m + bytes_in files)
    (one_index_more held folder order column columns index indexes m n (n + bytes_in rest) first others) p.sum

-- ---- feature tables

feature_read : (held : Files) (folder : List ℕ) (named : Option (List ℕ)) (table : FeatureTable) (files : List File) (m n k : ℕ) → named ≡ Some table.name
    → read_optional_table held (within folder table.name) m ≡ (Ok (Some (table_of_grid table.grid files)), n)
    → read_indexes held folder table.grid.head.order table.grid.head.columns n ≡ (Ok table.indexes, k)
    → read_named_table held folder named m ≡ (Ok (Some table), k)
feature_read held folder named table files m n k is e f = rw (is, e, f) refl

none_there : (held : Files) (folder : List ℕ) (named : Option (List ℕ)) (m : ℕ) → LacksNamed held folder named
    → read_named_table held folder named m ≡ (Ok None, m)
none_there held folder None m lacks = refl
none_there held folder (Some file) m lacks = rw lacks refl

item_held : SpelledAreRead → (held : Files) (folder item : List ℕ) (table : Option FeatureTable) (files : List File) (m : ℕ)
    → AreItemFiles folder item table files
    → AreHeld held files → LacksOfItem held folder item table → m + bytes_in files ≤ most_loaded
    → read_named_table held folder (own_file item) m ≡ (Ok table, m + bytes_in files)
item_held laws held folder item None files m are there lacks few =
    counted_so (read_named_table held folder (own_file item) m) None m (m + bytes_in files) (none_there held folder (own_file item) m lacks)
    (none_counted files m are)
item_held laws held folder item (Some table) files m a there lacks few =
    let n = m + bytes_in a.own in
    let k = n + bytes_in a.themes in
    let p = parts_held held a.own a.themes files m a.are there few in
    let own = table_held laws.tables held (within folder table.name) table.grid a.own m a.own_are p.here_there p.here_few in
    let themes = indexes_held laws held folder table.grid.head.order table.grid.head.columns table.indexes a.themes n a.themes_are p.rest_there lacks
    p.rest_few in
    counted_so (read_named_table held folder (own_file item) m) (Some table) k (m + bytes_in files)
    (feature_read held folder (own_file item) table a.own m n k a.named own themes) p.sum

one_table_more : (held : Files) (folder item : List ℕ) (items : List (List ℕ)) (table : Option FeatureTable) (tables : List FeatureTable) (m n k : ℕ)
    → read_named_table held folder (own_file item) m ≡ (Ok table, n) → read_feature_tables held folder items n ≡ (Ok tables, k)
    → read_feature_tables held folder (item ∷ items) m ≡ (Ok (maybe table ++ tables), k)
one_table_more held folder item items table tables m n k e f = rw (e, f) refl

items_held : SpelledAreRead → (held : Files) (folder : List ℕ) (items : List (List ℕ)) (found : List (Option FeatureTable)) (files : List File) (m : ℕ)
    → AreItemsFiles folder items found files → AreHeld held files → LacksOfItems held folder items found → m + bytes_in files ≤ most_loaded
    → read_feature_tables held folder items m ≡ (Ok (flat_map maybe found), m + bytes_in files)
items_held laws held folder [] [] files m are there lacks few =
    counted_so (read_feature_tables held folder [] m) [] m (m + bytes_in files) refl (none_counted files m are)
items_held laws held folder [] (table ∷ found) files m are there lacks few = absurd are
items_held laws held folder (item ∷ items) [] files m are there lacks few = absurd are
items_held laws held folder (item ∷ items) (table ∷ found) files m are there lacks few =
    let here = are.0 in
    let rest = are.1 in
    let n = m + bytes_in here in
    let p = parts_held held here rest files m are.2 there few in
    let first = item_held laws held folder item table here m are.3 p.here_there lacks.0 p.here_few in
    let others = items_held laws held folder items found rest n are.4 p.rest_there lacks.1 p.rest_few in
    counted_so (read_feature_tables held folder (item ∷ items) m) (maybe table ++ flat_map maybe found) (n + bytes_in rest) (m + bytes_in files)
    (one_table_more held folder item items table (flat_map maybe found) m n (n + bytes_in rest) first others) p.sum

-- ---- the schema table

looked_so : (name : List ℕ) (grid : Grid) (m : ℕ) → varies_in grid.head.columns ≡ false → schema_finding grid ≡ None
    → looked_at name grid m ≡ (Ok (Some grid), m)
looked_so name grid m same none = rw same (ap (λ (first : Option Disagreement). (unless_found name first (Some grid), m)) none)

fcs_alone : SpelledAreRead → (held : Files) (name bytes : List ℕ) (grid : Grid) (m : ℕ) → IsOpened grid bytes None → varies_in grid.head.columns ≡ false
    → schema_finding grid ≡ None → held name ≡ Some bytes → length bytes ≤ most_bytes → m + length bytes ≤ most_loaded
    → read_schema_table held name m ≡ (Ok (Some grid), m + length bytes)
fcs_alone laws held name bytes grid m opened same none e few sum =
    rw (file_held held name bytes m e few sum, laws.tables.opened bytes None grid opened) (looked_so name grid (m + length bytes) same none)

fcs_held : SpelledAreRead → ClassSchemasDecide → (held : Files) (folder : List ℕ) (fcs : Option Grid) (files : List File) (m : ℕ) → AreFcsFiles folder fcs files
    → AreHeld held files → (fcs ≡ None → held (schema_name folder) ≡ None) → m + bytes_in files ≤ most_loaded
    → read_schema_table held (schema_name folder) m ≡ (Ok fcs, m + bytes_in files)
fcs_held laws decide held folder None files m are there absent few =
    counted_so (read_schema_table held (schema_name folder) m) None m (m + bytes_in files) (rw (absent refl) refl) (none_counted files m are)
fcs_held laws decide held folder (Some grid) files m a h absent few =
    let p = a.table in
    let there = rw p.are at h in
    let all = rw p.are at few in
    let sum : m + length p.bytes ≡ m + (length p.bytes + 0) = omega arith in
    let read = fcs_alone laws held (schema_name folder) p.bytes grid m p.opened p.one_length ((decide grid).1 a.columns) there.0 there.1 (omega (arith, all)) in
    rw p.are (counted_so (read_schema_table held (schema_name folder) m) (Some grid) (m + length p.bytes) (m + (length p.bytes + 0)) read sum)

-- ---- the whole

abbrev schema_with : Option Grid → List FeatureTable → Schema
schema_with fcs tables = record { fcs = fcs; tables = tables }

schema_read : (held : Files) (folder : List ℕ) (fcs : Option Grid) (tables : List FeatureTable) (m n k : ℕ)
    → read_schema_table held (schema_name folder) m ≡ (Ok fcs, n) → read_feature_tables held folder (feature_items (joins_of fcs)) n ≡ (Ok tables, k)
    → read_schema held folder m ≡ (Ok (schema_with fcs tables), k)
schema_read held folder fcs tables m n k e f = rw (e, f) refl

tables_so : (read : Read Schema) (S : Schema) (tables : List FeatureTable) (n k : ℕ) → read ≡ (Ok (schema_with S.fcs tables), n) → S.tables ≡ tables → n ≡ k
    → read ≡ (Ok S, k)
tables_so read S tables n k e same sum = rw (e, sym same, sum) refl

pub held_schema_is_read : SpelledAreRead → ClassSchemasDecide → HeldSchemaIsRead
held_schema_is_read laws decide held folder S before h =
    let a = h.are in
    let n = before + bytes_in a.fcs in
    let k = n + bytes_in a.features in
    let items = feature_items (joins_of S.fcs) in
    let p = parts_held held a.fcs a.features h.files before a.are h.there h.few in
    let first = fcs_held laws decide held folder S.fcs a.fcs before a.fcs_are p.here_there h.own p.here_few in
    let rest = items_held laws held folder items h.found a.features n a.features_are p.rest_there h.items p.rest_few in
    tables_so (read_schema held folder before) S (flat_map maybe h.found) k (before + bytes_in h.files)
    (schema_read held folder S.fcs (flat_map maybe h.found) before n k first rest) a.tables p.sum
