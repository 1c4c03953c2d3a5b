-- The features of a coverage that are read from a tree are held by it.
use Rattle.std.proofs.Common.{[], ◌≡◌, ◌∙◌, ℕ, ◌+◌, ◌≤◌, Bool, true, false, cond, List, ◌∷◌, ◌++◌, Option, Some, None, Result, Ok, Err, refl, sym, ap, subst, arith}
use Rattle.std.specs.Prelude.{option_and_then}
use Rattle.std.specs.List.{flat_map}
use Rattle.vpf_base.specs.declared.orders.Order.{Order}
use Rattle.vpf_triplet.specs.declared.places.Place.{Place}
use Rattle.vpf_source.specs.Files.{Files, HoldsBytes}
use Rattle.vpf_source.specs.declared.file.File.{File}
use Rattle.vpf_findings.specs.Findings.{Disagreement}
use Rattle.vpf_findings.specs.Printing.{own_of}
use Rattle.vpf_head.specs.Head.{Col, varies_in}
use Rattle.vpf_table.specs.Grid.{Grid}
use Rattle.vpf_table.specs.Reading.{table_of}
use Rattle.vpf_theme.specs.Entries.{Theme}
use Rattle.vpf_theme.specs.Reading.{theme_of}
use Rattle.vpf_library_files.specs.declared.loading.loading.LoadStop.TheVariants as stops
use Rattle.vpf_library_files.specs.Loading.Holding.{AreHeld, bytes_in}
use Rattle.vpf_library_files.specs.Loading.Loading.{LoadedTable, Read, loaded_file, most_loaded, read_optional, read_optional_table, within}
use Rattle.vpf_library_files.specs.Loading.Loads.{maybe}
use Rattle.vpf_library_files.specs.Inner.Loading.FileLaws.{bytes_of_both, held_both}
use Rattle.vpf_library_files.specs.Inner.Loading.ReadLaws.{TableRead, TableReadOption, WasRead, are_bytes, none_read, optional_is, some_read}
use Rattle.vpf_library_files.specs.Inner.Loading.StepLaws.{one_count, graded_is, no_value, steps, stopped, value_is}
use Rattle.vpf_tiling.specs.Plan.PlanLoads.{unless_found}
use Rattle.vpf_feature_files.specs.Holding.{AreFcsFiles, AreItemFiles, AreItemsFiles, AreThemeFiles, AreThemesFiles, HoldsSchema, LacksNamed, LacksOfColumn, LacksOfColumns, LacksOfItem, LacksOfItems}
use Rattle.vpf_feature_files.specs.Inner.Laws.{ClassSchemasDecide, ReadSchemaIsHeld}
use Rattle.vpf_feature_files.specs.Reading.{index_in, looked_at, read_feature_tables, read_index, read_indexes, read_named_index, read_named_table, read_schema_table, schema_in, schema_name, theme_graded, with_indexes}
use Rattle.vpf_feature_files.specs.SchemaRows.Items.{own_file}
use Rattle.vpf_feature_files.specs.SchemaRows.Joins.{feature_items, schema_finding}
use Rattle.vpf_feature_files.specs.Schemas.{FeatureTable, Index, Schema, joins_of}
use Rattle.vpf_feature_files.proofs.laws.KnownLaws.{ReadAreSpelled}

-- ---- files that were read

-- what was read: its files are held, within the limits, and counted; what wasn't there is lacked
record Found (Are : List File → Type 0) (Lacks : Type 0) (held : Files) (m k : ℕ) : Type 0 where
  files : List File
  are : Are files
  there : AreHeld held files
  sum : k ≡ m + bytes_in files
  most : k ≤ most_loaded
  lacks : Lacks

none_found : (Are : List File → Type 0) (Lacks : Type 0) (held : Files) (m : ℕ) → m ≤ most_loaded → Are [] → Lacks → Found Are Lacks held m m
none_found Are Lacks held m most are lacks = record { files = []; are = are; there = tt; sum = omega arith; most = most; lacks = lacks }

both_found : (A B C : List File → Type 0) (L K : Type 0) (held : Files) (m n k : ℕ) → Found A L held m n → Found B K held n k
    → ((here rest : List File) → A here → B rest → C (here ++ rest)) → Found C (L × K) held m k
both_found A B C L K held m n k f g joined =
    let both = bytes_of_both f.files g.files in
    let first = f.sum in
    let more = g.sum in
    record {
      files = f.files ++ g.files;
      are = joined f.files g.files f.are g.are;
      there = held_both held f.files g.files f.there g.there;
      sum = omega (arith, both, first, more);
      most = g.most;
      lacks = (f.lacks, g.lacks);
    }

-- ---- thematic indexes

abbrev ColumnFound : Files → (folder : List ℕ) → Order → Col → Option Index → (m k : ℕ) → Type 0
ColumnFound held folder order column index m k = Found (AreThemeFiles folder order column index) (LacksOfColumn held folder column index) held m k

column_so : (held : Files) (folder : List ℕ) (order : Order) (column : Col) (x index : Option Index) (m n k : ℕ) → ColumnFound held folder order column x m n
    → x ≡ index → n ≡ k → ColumnFound held folder order column index m k
column_so held folder order column x index m n k h e f = rw (e, f) at h

no_column : (held : Files) (folder : List ℕ) (order : Order) (column : Col) (named : Option (List ℕ)) (m : ℕ) → m ≤ most_loaded
    → option_and_then own_file column.theme ≡ named → LacksNamed held folder named → ColumnFound held folder order column None m m
no_column held folder order column named m most is lacks =
    none_found (AreThemeFiles folder order column None) (LacksOfColumn held folder column None) held m most refl (subst (LacksNamed held folder) (sym is) lacks)

abbrev index_with : List ℕ → Theme → Index
index_with file theme = record { file = file; theme = theme }

column_graded : ReadAreSpelled
    → (held : Files) (folder file bytes : List ℕ) (order : Order) (column : Col) (theme : Result Theme Place) (index : Option Index) (m n k : ℕ)
    → HoldsBytes held → option_and_then own_file column.theme ≡ Some file → WasRead (held (within folder file)) bytes m n → theme_of order bytes ≡ theme
    → theme_graded folder file theme n ≡ (Ok index, k) → ColumnFound held folder order column index m k
column_graded laws held folder file bytes order column (Ok theme) index m n k all is r read e =
    let one = Some (index_with file theme) in
    let sum = r.sum in
    let spelled = laws.theme order theme bytes (are_bytes held (within folder file) bytes all r.there) read in
    let made : ColumnFound held folder order column (Some (index_with file theme)) m n = record {
      files = loaded_file (within folder file) bytes ∷ [];
      are = record { bytes = bytes; named = is; are = refl; spelled = spelled };
      there = (r.there, r.few, tt);
      sum = omega (arith, sum);
      most = r.most;
      lacks = tt;
    } in
    column_so held folder order column one index m n k made (value_is one index n k e) (one_count one index n k e)
column_graded laws held folder file bytes order column (Err place) index m n k all is r read e =
    absurd (no_value (stops.Place (within folder file) place) n k index e)

column_in : ReadAreSpelled → (held : Files) (folder file : List ℕ) (order : Order) (column : Col) (found : Option (List ℕ)) (index : Option Index) (m n k : ℕ)
    → HoldsBytes held → m ≤ most_loaded → option_and_then own_file column.theme ≡ Some file → read_optional held (within folder file) m ≡ (Ok found, n)
    → index_in folder file order found n ≡ (Ok index, k) → ColumnFound held folder order column index m k
column_in laws held folder file order column None index m n k all most is e f =
    let r = none_read (within folder file) (held (within folder file)) m n e in
    column_so held folder order column None index m m k (no_column held folder order column (Some file) m most is r.0) (value_is None index n k f)
    (r.1 ∙ one_count None index n k f)
column_in laws held folder file order column (Some bytes) index m n k all most is e f =
    column_graded laws held folder file bytes order column (theme_of order bytes) index m n k all is
    (some_read (within folder file) bytes (held (within folder file)) m n e) refl f

column_found : ReadAreSpelled → (held : Files) (folder : List ℕ) (order : Order) (column : Col) (named : Option (List ℕ)) (index : Option Index) (m k : ℕ)
    → HoldsBytes held → m ≤ most_loaded → option_and_then own_file column.theme ≡ named → read_named_index held folder order named m ≡ (Ok index, k)
    → ColumnFound held folder order column index m k
column_found laws held folder order column None index m k all most is e =
    column_so held folder order column None index m m k (no_column held folder order column None m most is tt) (value_is None index m k e)
    (one_count None index m k e)
column_found laws held folder order column (Some file) index m k all most is e =
    let s = steps (read_optional held (within folder file) m) (index_in folder file order) index k e in
    column_in laws held folder file order column s.0 index m s.1 k all most is s.2 s.3

abbrev ColumnsFound : Files → (folder : List ℕ) → Order → List Col → List (Option Index) → (m k : ℕ) → Type 0
ColumnsFound held folder order columns indexes m k = Found (AreThemesFiles folder order columns indexes) (LacksOfColumns held folder columns indexes) held m k

columns_so : (held : Files) (folder : List ℕ) (order : Order) (columns : List Col) (x indexes : List (Option Index)) (m n k : ℕ)
    → ColumnsFound held folder order columns x m n → x ≡ indexes → n ≡ k → ColumnsFound held folder order columns indexes m k
columns_so held folder order columns x indexes m n k h e f = rw (e, f) at h

one_column_more : (held : Files) (folder : List ℕ) (order : Order) (column : Col) (columns : List Col) (index : Option Index) (indexes : List (Option Index))
    (m n k : ℕ)
    → ColumnFound held folder order column index m n → ColumnsFound held folder order columns indexes n k
    → ColumnsFound held folder order (column ∷ columns) (index ∷ indexes) m k
one_column_more held folder order column columns index indexes m n k f g =
    both_found (AreThemeFiles folder order column index) (AreThemesFiles folder order columns indexes)
    (AreThemesFiles folder order (column ∷ columns) (index ∷ indexes)) (LacksOfColumn held folder column index) (LacksOfColumns held folder columns indexes)
    held m n k f g (λ here rest a b. (here, rest, refl, a, b))

columns_found : ReadAreSpelled → (held : Files) (folder : List ℕ) (order : Order) (columns : List Col) (indexes : List (Option Index)) (m k : ℕ)
    → HoldsBytes held → m ≤ most_loaded → read_indexes held folder order columns m ≡ (Ok indexes, k) → ColumnsFound held folder order columns indexes m k
columns_found laws held folder order [] indexes m k all most e =
    columns_so held folder order [] [] indexes m m k (none_found (AreThemesFiles folder order [] []) (LacksOfColumns held folder [] []) held m most refl tt)
    (value_is {V = List (Option Index)} [] indexes m k e) (one_count {V = List (Option Index)} [] indexes m k e)
columns_found laws held folder order (column ∷ columns) indexes m k all most e =
    let s = steps (read_index held folder order column m) _ indexes k e in
    let r = steps (read_indexes held folder order columns s.1) _ indexes k s.3 in
    let first = column_found laws held folder order column (option_and_then own_file column.theme) s.0 m s.1 all most refl s.2 in
    let rest = columns_found laws held folder order columns r.0 s.1 r.1 all first.most r.2 in
    columns_so held folder order (column ∷ columns) (s.0 ∷ r.0) indexes m r.1 k
    (one_column_more held folder order column columns s.0 r.0 m s.1 r.1 first rest) (value_is (s.0 ∷ r.0) indexes r.1 k r.3)
    (one_count (s.0 ∷ r.0) indexes r.1 k r.3)

-- ---- feature tables

abbrev ItemFound : Files → (folder item : List ℕ) → Option FeatureTable → (m k : ℕ) → Type 0
ItemFound held folder item table m k = Found (AreItemFiles folder item table) (LacksOfItem held folder item table) held m k

item_so : (held : Files) (folder item : List ℕ) (x table : Option FeatureTable) (m n k : ℕ) → ItemFound held folder item x m n → x ≡ table → n ≡ k
    → ItemFound held folder item table m k
item_so held folder item x table m n k h e f = rw (e, f) at h

no_item : (held : Files) (folder item : List ℕ) (named : Option (List ℕ)) (m : ℕ) → m ≤ most_loaded → own_file item ≡ named → LacksNamed held folder named
    → ItemFound held folder item None m m
no_item held folder item named m most is lacks =
    none_found (AreItemFiles folder item None) (LacksOfItem held folder item None) held m most refl (subst (LacksNamed held folder) (sym is) lacks)

abbrev feature_with : List ℕ → Grid → List (Option Index) → FeatureTable
feature_with file grid indexes = record { name = file; grid = grid; indexes = indexes }

feature_found : (held : Files) (folder item file : List ℕ) (t : LoadedTable) (indexes : List (Option Index)) (m n k : ℕ) → own_file item ≡ Some file
    → TableRead held (within folder file) t m n → ColumnsFound held folder t.grid.head.order t.grid.head.columns indexes n k
    → ItemFound held folder item (Some (feature_with file t.grid indexes)) m k
feature_found held folder item file t indexes m n k is r c =
    let both = bytes_of_both t.files c.files in
    let first = r.sum in
    let more = c.sum in
    record {
      files = t.files ++ c.files;
      are = record { own = t.files; themes = c.files; named = is; are = refl; own_are = r.are; themes_are = c.are };
      there = held_both held t.files c.files r.there c.there;
      sum = omega (arith, both, first, more);
      most = c.most;
      lacks = c.lacks;
    }

item_in : ReadAreSpelled → (held : Files) (folder item file : List ℕ) (found : Option LoadedTable) (table : Option FeatureTable) (m n k : ℕ) → HoldsBytes held
    → m ≤ most_loaded → own_file item ≡ Some file → TableReadOption held (within folder file) found m n
    → with_indexes held folder file found n ≡ (Ok table, k) → ItemFound held folder item table m k
item_in laws held folder item file None table m n k all most is r e =
    item_so held folder item None table m m k (no_item held folder item (Some file) m most is r.0) (value_is None table n k e) (r.1 ∙ one_count None table n k e)
item_in laws held folder item file (Some t) table m n k all most is r e =
    let s = steps (read_indexes held folder t.grid.head.order t.grid.head.columns n) _ table k e in
    let c = columns_found laws held folder t.grid.head.order t.grid.head.columns s.0 n s.1 all r.most s.2 in
    let one = Some (feature_with file t.grid s.0) in
    item_so held folder item one table m s.1 k (feature_found held folder item file t s.0 m n s.1 is r c) (value_is one table s.1 k s.3)
    (one_count one table s.1 k s.3)

item_found : ReadAreSpelled → (held : Files) (folder item : List ℕ) (named : Option (List ℕ)) (table : Option FeatureTable) (m k : ℕ) → HoldsBytes held
    → m ≤ most_loaded → own_file item ≡ named → read_named_table held folder named m ≡ (Ok table, k) → ItemFound held folder item table m k
item_found laws held folder item None table m k all most is e =
    item_so held folder item None table m m k (no_item held folder item None m most is tt) (value_is None table m k e) (one_count None table m k e)
item_found laws held folder item (Some file) table m k all most is e =
    let s = steps (read_optional_table held (within folder file) m) (with_indexes held folder file) table k e in
    item_in laws held folder item file s.0 table m s.1 k all most is (optional_is laws.tables held (within folder file) s.0 m s.1 all s.2) s.3

-- the feature tables that items name, and those of them that are there
record ItemsFound (held : Files) (folder : List ℕ) (items : List (List ℕ)) (tables : List FeatureTable) (m k : ℕ) : Type 0 where
  found : List (Option FeatureTable)
  tables_are : tables ≡ flat_map maybe found
  all : Found (AreItemsFiles folder items found) (LacksOfItems held folder items found) held m k

items_so : (held : Files) (folder : List ℕ) (items : List (List ℕ)) (x tables : List FeatureTable) (m n k : ℕ) → ItemsFound held folder items x m n
    → x ≡ tables → n ≡ k
    → ItemsFound held folder items tables m k
items_so held folder items x tables m n k h e f = rw (e, f) at h

no_items : (held : Files) (folder : List ℕ) (m : ℕ) → m ≤ most_loaded → ItemsFound held folder [] [] m m
no_items held folder m most = record {
  found = [];
  tables_are = refl;
  all = none_found (AreItemsFiles folder [] []) (LacksOfItems held folder [] []) held m most refl tt;
}

one_item_more : (held : Files) (folder item : List ℕ) (items : List (List ℕ)) (table : Option FeatureTable) (tables : List FeatureTable) (m n k : ℕ)
    → ItemFound held folder item table m n → ItemsFound held folder items tables n k → ItemsFound held folder (item ∷ items) (maybe table ++ tables) m k
one_item_more held folder item items table tables m n k f g = record {
  found = table ∷ g.found;
  tables_are = ap (λ (x : List FeatureTable). maybe table ++ x) g.tables_are;
  all = both_found (AreItemFiles folder item table) (AreItemsFiles folder items g.found) (AreItemsFiles folder (item ∷ items) (table ∷ g.found))
      (LacksOfItem held folder item table) (LacksOfItems held folder items g.found) held m n k f g.all (λ here rest a b. (here, rest, refl, a, b));
}

items_found : ReadAreSpelled → (held : Files) (folder : List ℕ) (items : List (List ℕ)) (tables : List FeatureTable) (m k : ℕ) → HoldsBytes held
    → m ≤ most_loaded
    → read_feature_tables held folder items m ≡ (Ok tables, k) → ItemsFound held folder items tables m k
items_found laws held folder [] tables m k all most e =
    items_so held folder [] [] tables m m k (no_items held folder m most) (value_is {V = List FeatureTable} [] tables m k e)
    (one_count {V = List FeatureTable} [] tables m k e)
items_found laws held folder (item ∷ items) tables m k all most e =
    let s = steps (read_named_table held folder (own_file item) m) _ tables k e in
    let r = steps (read_feature_tables held folder items s.1) _ tables k s.3 in
    let first = item_found laws held folder item (own_file item) s.0 m s.1 all most refl s.2 in
    let rest = items_found laws held folder items r.0 s.1 r.1 all first.most r.2 in
    let made = maybe s.0 ++ r.0 in
    items_so held folder (item ∷ items) made tables m r.1 k (one_item_more held folder item items s.0 r.0 m s.1 r.1 first rest) (value_is made tables r.1 k r.3)
    (one_count made tables r.1 k r.3)

-- ---- the schema table

abbrev FcsFound : Files → (folder : List ℕ) → Option Grid → (m k : ℕ) → Type 0
FcsFound held folder fcs m k = Found (AreFcsFiles folder fcs) (fcs ≡ None → held (schema_name folder) ≡ None) held m k

fcs_so : (held : Files) (folder : List ℕ) (x fcs : Option Grid) (m n k : ℕ) → FcsFound held folder x m n → x ≡ fcs → n ≡ k → FcsFound held folder fcs m k
fcs_so held folder x fcs m n k h e f = rw (e, f) at h

not_none : (grid : Grid) → Some grid ≡ None → ⊥
not_none grid e = cc

-- what is said of its columns
abbrev with_finding : List ℕ → Grid → Option Disagreement → ℕ → Read (Option Grid)
with_finding name grid first n = (unless_found name first (Some grid), n)

fcs_placed : ReadAreSpelled → ClassSchemasDecide
    → (held : Files) (folder bytes : List ℕ) (grid : Grid) (first : Option Disagreement) (fcs : Option Grid) (m n k : ℕ)
    → HoldsBytes held → WasRead (held (schema_name folder)) bytes m n → table_of bytes ≡ Ok grid → varies_in grid.head.columns ≡ false
    → schema_finding grid ≡ first → with_finding (schema_name folder) grid first n ≡ (Ok fcs, k) → FcsFound held folder fcs m k
fcs_placed laws decide held folder bytes grid None fcs m n k all r read same none e =
    let one = Some grid in
    let sum = r.sum in
    let opened = laws.tables.spelled bytes None grid (are_bytes held (schema_name folder) bytes all r.there) tt read in
    let made : FcsFound held folder (Some grid) m n = record {
      files = loaded_file (schema_name folder) bytes ∷ [];
      are = record { table = record { bytes = bytes; are = refl; opened = opened; one_length = same }; columns = (decide grid).0 none };
      there = (r.there, r.few, tt);
      sum = omega (arith, sum);
      most = r.most;
      lacks = λ absent. absurd (not_none grid absent);
    } in
    fcs_so held folder one fcs m n k made (value_is one fcs n k e) (one_count one fcs n k e)
fcs_placed laws decide held folder bytes grid (Some d) fcs m n k all r read same none e =
    absurd (no_value (stops.Finding (schema_name folder) (own_of d)) n k fcs e)

fcs_looked : ReadAreSpelled → ClassSchemasDecide → (held : Files) (folder bytes : List ℕ) (grid : Grid) (varies : Bool) (fcs : Option Grid) (m n k : ℕ)
    → HoldsBytes held
    → WasRead (held (schema_name folder)) bytes m n → table_of bytes ≡ Ok grid → varies_in grid.head.columns ≡ varies
    → cond varies (stopped (stops.Varies (schema_name folder)) n) (with_finding (schema_name folder) grid (schema_finding grid) n) ≡ (Ok fcs, k)
    → FcsFound held folder fcs m k
fcs_looked laws decide held folder bytes grid true fcs m n k all r read same e = absurd (no_value (stops.Varies (schema_name folder)) n k fcs e)
fcs_looked laws decide held folder bytes grid false fcs m n k all r read same e =
    fcs_placed laws decide held folder bytes grid (schema_finding grid) fcs m n k all r read same refl e

fcs_in : ReadAreSpelled → ClassSchemasDecide → (held : Files) (folder : List ℕ) (found : Option (List ℕ)) (fcs : Option Grid) (m n k : ℕ) → HoldsBytes held
    → m ≤ most_loaded → read_optional held (schema_name folder) m ≡ (Ok found, n) → schema_in (schema_name folder) found n ≡ (Ok fcs, k)
    → FcsFound held folder fcs m k
fcs_in laws decide held folder None fcs m n k all most e f =
    let r = none_read (schema_name folder) (held (schema_name folder)) m n e in
    let made = none_found (AreFcsFiles folder None) (None ≡ None → held (schema_name folder) ≡ None) held m most refl (λ _. r.0) in
    fcs_so held folder None fcs m m k made (value_is None fcs n k f) (r.1 ∙ one_count None fcs n k f)
fcs_in laws decide held folder (Some bytes) fcs m n k all most e f =
    let r = some_read (schema_name folder) bytes (held (schema_name folder)) m n e in
    let g = graded_is (schema_name folder) (looked_at (schema_name folder)) (table_of bytes) n fcs k f in
    fcs_looked laws decide held folder bytes g.0 (varies_in g.0.head.columns) fcs m n k all r g.1 refl g.2

fcs_found : ReadAreSpelled → ClassSchemasDecide → (held : Files) (folder : List ℕ) (fcs : Option Grid) (m k : ℕ) → HoldsBytes held → m ≤ most_loaded
    → read_schema_table held (schema_name folder) m ≡ (Ok fcs, k) → FcsFound held folder fcs m k
fcs_found laws decide held folder fcs m k all most e =
    let s = steps (read_optional held (schema_name folder) m) (schema_in (schema_name folder)) fcs k e in
    fcs_in laws decide held folder s.0 fcs m s.1 k all most s.2 s.3

-- ---- the whole

abbrev schema_with : Option Grid → List FeatureTable → Schema
schema_with fcs tables = record { fcs = fcs; tables = tables }

-- a tree holds a schema, whose bytes were counted
abbrev HoldsCounted : Files → (folder : List ℕ) → Schema → (m k : ℕ) → Type 0
HoldsCounted held folder S m k = (h : HoldsSchema held folder S m) × (k ≡ m + bytes_in h.files)

counted_so_far : (held : Files) (folder : List ℕ) (x S : Schema) (m n k : ℕ) → HoldsCounted held folder x m n → x ≡ S → n ≡ k → HoldsCounted held folder S m k
counted_so_far held folder x S m n k h e f = rw (e, f) at h

schema_found : (held : Files) (folder : List ℕ) (fcs : Option Grid) (tables : List FeatureTable) (m n k : ℕ) → FcsFound held folder fcs m n
    → ItemsFound held folder (feature_items (joins_of fcs)) tables n k → HoldsCounted held folder (schema_with fcs tables) m k
schema_found held folder fcs tables m n k f g =
    let both = bytes_of_both f.files g.all.files in
    let first = f.sum in
    let more = g.all.sum in
    let most = g.all.most in
    let sum : k ≡ m + bytes_in (f.files ++ g.all.files) = omega (arith, both, first, more) in (
      record {
        found = g.found;
        files = f.files ++ g.all.files;
        are = record { fcs = f.files; features = g.all.files; are = refl; fcs_are = f.are; features_are = g.all.are; tables = g.tables_are };
        there = held_both held f.files g.all.files f.there g.all.there;
        few = omega (arith, sum, most);
        own = f.lacks;
        items = g.all.lacks;
      },
      sum,
    )

pub read_schema_is_held : ReadAreSpelled → ClassSchemasDecide → ReadSchemaIsHeld
read_schema_is_held laws decide held folder S before behind all most e =
    let s = steps (read_schema_table held (schema_name folder) before) _ S behind e in
    let r = steps (read_feature_tables held folder (feature_items (joins_of s.0)) s.1) _ S behind s.3 in
    let first = fcs_found laws decide held folder s.0 before s.1 all most s.2 in
    let rest = items_found laws held folder (feature_items (joins_of s.0)) r.0 s.1 r.1 all first.most r.2 in
    let made = schema_with s.0 r.0 in
    counted_so_far held folder made S before r.1 behind (schema_found held folder s.0 r.0 before s.1 r.1 first rest) (value_is made S r.1 behind r.3)
    (one_count made S r.1 behind r.3)
