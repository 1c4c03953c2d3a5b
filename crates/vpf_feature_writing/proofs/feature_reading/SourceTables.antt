-- What is known of tables and thematic indexes that were read: they were there, and the tables can be written.
use Rattle.std.proofs.Common.{[], ◌≡◌, ℕ, ◌+◌, ◌≤◌, Bool, true, false, cond, List, ◌∷◌, length, nat_le, Option, Some, None, Result, Ok, Err, refl, sym, subst, ◌∙◌}
use Rattle.std.specs.Prelude.{IfSome, option_and_then}
use Rattle.vpf_base.specs.Bytes.{IsBytes}
use Rattle.vpf_base.specs.Limits.{most_bytes, most_rows}
use Rattle.vpf_source.specs.Files.{Files, HoldsBytes}
use Rattle.vpf_base.specs.declared.orders.Order.{Order}
use Rattle.vpf_triplet.specs.declared.places.Place.{Place}
use Rattle.vpf_head.specs.Head.{Col, varies_in}
use Rattle.vpf_source.specs.Names.Indexes.{index_name}
use Rattle.vpf_table.specs.Canonical.{IsWritable, in_order}
use Rattle.vpf_table.specs.Grid.{Grid}
use Rattle.vpf_table.specs.Opening.{opened_of}
use Rattle.vpf_table.specs.Reading.{table_of}
use Rattle.vpf_table.specs.Spelling.{IsTable}
use Rattle.vpf_theme.specs.Entries.{Theme}
use Rattle.vpf_theme.specs.Reading.{theme_of}
use Rattle.vpf_library_files.specs.declared.loading.loading.LoadStop.{LoadStop}
use Rattle.vpf_library_files.specs.declared.loading.loading.LoadStop.TheVariants as stops
use Rattle.vpf_library_files.specs.Loading.Loading.{LoadedTable, ◌and_then◌, loaded_file, most_loaded, read_found, read_optional, read_optional_table, read_required, read_table_in, tabled, with_its_index, with_own_index, within}
use Rattle.vpf_library_files.specs.Inner.Loading.StepLaws.{gives, graded_is, no_value, steps, stopped, value_is}
use Rattle.vpf_feature_files.specs.SchemaRows.Items.{own_file}
use Rattle.vpf_feature_files.specs.Reading.{index_in, read_index, read_indexes, read_named_index, theme_graded}
use Rattle.vpf_feature_files.specs.Schemas.{Index}
use Rattle.vpf_feature_writing.specs.FeatureReading.Laws.{IsReadGrid}
use Rattle.vpf_feature_writing.proofs.feature_reading.ThemeLemmas.{HasIndex, theme_indexed}

-- the laws of tables that are read
pub record ReadLaws : Type 0 where
  pub read : (bytes : List ℕ) (index : Option (List ℕ)) (g : Grid) → opened_of bytes index ≡ Ok g → table_of bytes ≡ Ok g
  pub spelled : (bytes : List ℕ) (g : Grid) → IsBytes bytes → table_of bytes ≡ Ok g → IsTable g bytes
  pub writable : (bytes : List ℕ) (g : Grid) (order : Order) → IsBytes bytes → table_of bytes ≡ Ok g → IsWritable (in_order order g)

-- a table that is read of some bytes: it can be written, and has as many rows as one may have
pub record IsGrid (grid : Grid) : Type 0 where
  pub read : IsReadGrid grid
  pub writable : IsWritable grid
  pub few : length grid.rows ≤ most_rows

held_bytes : (src : Files) (name bytes : List ℕ) → HoldsBytes src → src name ≡ Some bytes → IsBytes bytes
held_bytes src name bytes all e = subst (λ o. IfSome o IsBytes) e (all name)

-- a table that is read of a file of bytes
pub read_grid : ReadLaws → (src : Files) (name bytes : List ℕ) (grid : Grid) → HoldsBytes src → src name ≡ Some bytes → table_of bytes ≡ Ok grid → IsGrid grid
read_grid laws src name bytes grid all there e =
    let are = held_bytes src name bytes all there in
    record {
      read = record { bytes = bytes; are = are; read = e };
      writable = laws.writable bytes grid grid.head.order are e;
      few = (laws.spelled bytes grid are e).most;
    }

-- ---- files that were found

limits : (a b : Bool) (bytes : List ℕ) (p q : LoadStop) (n m k : ℕ) (found : Option (List ℕ))
    → cond a (cond b (gives (Some bytes) n) (stopped p m)) (stopped q m) ≡ (Ok found, k)
    → Some bytes ≡ found
limits true true bytes p q n m k found e = value_is (Some bytes) found n k e
limits true false bytes p q n m k found e = absurd (no_value p m k found e)
limits false b bytes p q n m k found e = absurd (no_value q m k found e)

found_in : (name : List ℕ) (file : Option (List ℕ)) (n k : ℕ) (found : Option (List ℕ)) → read_found name file n ≡ (Ok found, k) → file ≡ found
found_in name None n k found e = value_is None found n k e
found_in name (Some bytes) n k found e =
    limits (nat_le (length bytes) most_bytes) (nat_le (n + length bytes) most_loaded) bytes _ _ (n + length bytes) n k found e

pub found_is : (src : Files) (name : List ℕ) (n k : ℕ) (found : Option (List ℕ)) → read_optional src name n ≡ (Ok found, k) → src name ≡ found
found_is src name n k found e = found_in name (src name) n k found e

-- ---- tables

of_table : (bytes : List ℕ) (x t : LoadedTable) → x ≡ t → table_of bytes ≡ Ok x.grid → table_of bytes ≡ Ok t.grid
of_table bytes x t same e = subst (λ (y : LoadedTable). table_of bytes ≡ Ok y.grid) same e

abbrev plain_table : (name bytes : List ℕ) → Grid → LoadedTable
plain_table name bytes grid = record { grid = grid; files = loaded_file name bytes ∷ [] }

abbrev indexed_table : (name bytes index : List ℕ) → Grid → LoadedTable
indexed_table name bytes index grid = record { grid = grid; files = loaded_file name bytes ∷ loaded_file (index_name name) index ∷ [] }

table_by : ReadLaws → (src : Files) (name bytes : List ℕ) (grid : Grid) (n k : ℕ) (t : LoadedTable) (varies : Bool) → table_of bytes ≡ Ok grid
    → cond varies (read_required src (index_name name) n and_then with_own_index name bytes) (gives (plain_table name bytes grid) n) ≡ (Ok t, k)
    → table_of bytes ≡ Ok t.grid
table_by laws src name bytes grid n k t true read e =
    let s = steps (read_required src (index_name name) n) (with_own_index name bytes) t k e in
    let o = graded_is (index_name name) (λ grid n. gives (indexed_table name bytes s.0 grid) n) (opened_of bytes (Some s.0)) s.1 t k s.3 in
    of_table bytes (indexed_table name bytes s.0 o.0) t (value_is (indexed_table name bytes s.0 o.0) t s.1 k o.2) (laws.read bytes (Some s.0) o.0 o.1)
table_by laws src name bytes grid n k t false read e = of_table bytes (plain_table name bytes grid) t (value_is (plain_table name bytes grid) t n k e) read

table_in : ReadLaws → (src : Files) (name bytes : List ℕ) (n k : ℕ) (t : LoadedTable) → read_table_in src name bytes n ≡ (Ok t, k) → table_of bytes ≡ Ok t.grid
table_in laws src name bytes n k t e =
    let g = graded_is name (with_its_index src name bytes) (table_of bytes) n t k e in
    table_by laws src name bytes g.0 n k t (varies_in g.0.head.columns) g.1 g.2

-- a table is there and can be written; where none was read none is there
abbrev pub IsFound : Files → List ℕ → Option LoadedTable → Type 0
IsFound src name None = src name ≡ None
IsFound src name (Some t) = (src name ≡ None → ⊥) × IsGrid t.grid

there_is : {X : Type 0} (o : Option X) (x : X) → o ≡ Some x → o ≡ None → ⊥
there_is o x e f = cc (sym e ∙ f)

tabled_found : ReadLaws → (src : Files) (name : List ℕ) (file : Option (List ℕ)) (n k : ℕ) (t : Option LoadedTable) → HoldsBytes src → src name ≡ file
    → tabled src name file n ≡ (Ok t, k) → IsFound src name t
tabled_found laws src name None n k t all there e = subst (IsFound src name) (value_is None t n k e) there
tabled_found laws src name (Some bytes) n k t all there e =
    let s = steps (read_table_in src name bytes n) (λ table m. gives (Some table) m) t k e in
    let grid = read_grid laws src name bytes s.0.grid all there (table_in laws src name bytes n s.1 s.0 s.2) in
    subst (IsFound src name) (value_is (Some s.0) t s.1 k s.3) (there_is (src name) bytes there, grid)

pub table_found : ReadLaws → (src : Files) (name : List ℕ) (n k : ℕ) (t : Option LoadedTable) → HoldsBytes src → read_optional_table src name n ≡ (Ok t, k)
    → IsFound src name t
table_found laws src name n k t all e =
    let s = steps (read_optional src name n) (tabled src name) t k e in
    tabled_found laws src name s.0 s.1 k t all (found_is src name n s.1 s.0 s.2) s.3

-- ---- thematic indexes

-- an index that was read is in the file that is named, and is one of a kind that can be indexed
pub record IsNamedIndex (named : Option (List ℕ)) (index : Index) : Type 0 where
  pub file : named ≡ Some index.file
  pub can : HasIndex index.theme.kind index.theme.count

abbrev pub IsNamedOption : Option (List ℕ) → Option Index → Type 0
IsNamedOption named None = Unit {0}
IsNamedOption named (Some index) = IsNamedIndex named index

-- the file that a column names
abbrev pub file_of : Col → Option (List ℕ)
file_of column = option_and_then own_file column.theme

-- those of columns
abbrev pub AreNamed : List Col → List (Option Index) → Type 0
AreNamed [] [] = Unit {0}
AreNamed (column ∷ columns) (index ∷ indexes) = IsNamedOption (file_of column) index × AreNamed columns indexes
AreNamed columns indexes = ⊥

-- an index in a file
abbrev pub index_with : List ℕ → Theme → Index
index_with file theme = record { file = file; theme = theme }

graded_named : (folder file : List ℕ) (order : Order) (bytes : List ℕ) (theme : Result Theme Place) (n k : ℕ) (index : Option Index)
    → theme_of order bytes ≡ theme
    → theme_graded folder file theme n ≡ (Ok index, k) → IsNamedOption (Some file) index
graded_named folder file order bytes (Ok theme) n k index read e =
    subst (IsNamedOption (Some file)) (value_is (Some (index_with file theme)) index n k e) (record { file = refl; can = theme_indexed order bytes theme read })
graded_named folder file order bytes (Err place) n k index read e = absurd (no_value (stops.Place (within folder file) place) n k index e)

index_found : (folder file : List ℕ) (order : Order) (found : Option (List ℕ)) (n k : ℕ) (index : Option Index)
    → index_in folder file order found n ≡ (Ok index, k)
    → IsNamedOption (Some file) index
index_found folder file order None n k index e = subst (IsNamedOption (Some file)) (value_is None index n k e) tt
index_found folder file order (Some bytes) n k index e = graded_named folder file order bytes (theme_of order bytes) n k index refl e

index_named : (src : Files) (folder : List ℕ) (order : Order) (named : Option (List ℕ)) (n k : ℕ) (index : Option Index)
    → read_named_index src folder order named n ≡ (Ok index, k)
    → IsNamedOption named index
index_named src folder order None n k index e = subst (IsNamedOption None) (value_is None index n k e) tt
index_named src folder order (Some file) n k index e =
    let s = steps (read_optional src (within folder file) n) (index_in folder file order) index k e in
    index_found folder file order s.0 s.1 k index s.3

pub indexes_named : (src : Files) (folder : List ℕ) (order : Order) (columns : List Col) (n k : ℕ) (indexes : List (Option Index))
    → read_indexes src folder order columns n ≡ (Ok indexes, k) → AreNamed columns indexes
indexes_named src folder order [] n k indexes e = subst (AreNamed []) (value_is [] indexes n k e) tt
indexes_named src folder order (column ∷ columns) n k indexes e =
    let next = λ (index : Option Index) (m : ℕ). read_indexes src folder order columns m and_then λ rest m. gives (index ∷ rest) m in
    let first = steps (read_index src folder order column n) next indexes k e in
    let rest = steps (read_indexes src folder order columns first.1) (λ rest m. gives (first.0 ∷ rest) m) indexes k first.3 in
    subst (AreNamed (column ∷ columns)) (value_is (first.0 ∷ rest.0) indexes rest.1 k rest.3)
    (index_named src folder order (file_of column) n first.1 first.0 first.2, indexes_named src folder order columns first.1 rest.1 rest.0 rest.2)
