-- The features that are written are read again: the schema table, and its feature tables item by item.
use Rattle.std.proofs.Common.{[], ◌≡◌, ℕ, ◌+◌, Bool, true, false, cond, List, ◌∷◌, ◌++◌, length, map, Option, Some, None, Ok, refl, sym, ap, subst, arith}
use Rattle.std.specs.Prelude.{codes, slice_get}
use Rattle.std.specs.Cmp.Lexicographic.{bytes_decides}
use Rattle.std.specs.List.{AllByRecursion}
use Rattle.std.specs.Str.{bytes_eq}
use Rattle.vpf_source.specs.Files.{Files}
use Rattle.vpf_source.specs.declared.file.File.{File}
use Rattle.vpf_head.specs.Head.{varies_in}
use Rattle.vpf_table.specs.Canonical.{canonical_table}
use Rattle.vpf_table.specs.Grid.{Grid}
use Rattle.vpf_table.specs.Reading.{table_of}
use Rattle.vpf_library_files.specs.Loading.Holding.{bytes_in}
use Rattle.vpf_library_files.specs.Loading.Loading.{read_optional, read_optional_table, within}
use Rattle.vpf_library_files.specs.Loading.Loads.{maybe}
use Rattle.vpf_feature_files.specs.SchemaRows.Items.{own_file}
use Rattle.vpf_feature_files.specs.SchemaRows.Joins.{feature_items, schema_finding}
use Rattle.vpf_feature_files.specs.Reading.{read_feature_tables, read_indexes, read_named_table, read_schema, read_schema_table, schema_name}
use Rattle.vpf_feature_files.specs.Schemas.{FeatureTable, Index, joins_of, table_in_file}
use Rattle.vpf_features.specs.FeatureAgreement.Agreeing.{HaveOwnIndexes}
use Rattle.vpf_feature_writing.specs.Making.{feature_table_made, feature_tables_made, indexes_made, schema_made, table_made}
use Rattle.vpf_feature_writing.specs.FeatureReading.Laws.{Lacks, LacksIndexes, WrittenAreRead}
use Rattle.vpf_feature_writing.specs.FeatureReading.Rebuilt.{rebuilt_indexes, rebuilt_table}
use Rattle.vpf_feature_writing.proofs.feature_reading.HeldLemmas.{AreFit, no_files, none_read, one_read, parts_are}
use Rattle.vpf_library_files.specs.Inner.Loading.HeldLaws.{counted_so}
use Rattle.vpf_feature_writing.proofs.feature_reading.IndexLemmas.{BuiltIsRead, agree_from, indexes_again}
use Rattle.vpf_feature_writing.proofs.feature_reading.SourceLemmas.{AreItems, IsItem, IsSchemaGrid, IsSchemaOption, IsTableRead, source_is}
use Rattle.vpf_feature_writing.proofs.feature_reading.SourceTables.{ReadLaws}
use Rattle.vpf_feature_writing.proofs.feature_reading.TableLemmas.{WrittenLaws, made_is, one_made, table_again}

-- the laws of what is written
pub record AgainLaws : Type 0 where
  pub tables : WrittenLaws
  pub indexes : BuiltIsRead

-- ---- a feature table

-- what a feature table lacks
abbrev LacksOfTable : Files → (folder : List ℕ) → FeatureTable → Type 0
LacksOfTable held folder table = LacksIndexes held folder table.grid.head.columns table.indexes

with_them : (held : Files) (folder file : List ℕ) (grid : Grid) (files : List File) (indexes : List (Option Index)) (n m k : ℕ)
    → read_optional_table held (within folder file) n ≡ (Ok (Some (record { grid = grid; files = files })), m)
    → read_indexes held folder grid.head.order grid.head.columns m ≡ (Ok indexes, k)
    → read_named_table held folder (Some file) n ≡ (Ok (Some (record { name = file; grid = grid; indexes = indexes })), k)
with_them held folder file grid files indexes n m k e f = rw (e, f) refl

feature_table_again : AgainLaws → (held src : Files) (folder other : List ℕ) (table : FeatureTable) (n : ℕ) (made : List File) → IsTableRead src folder table
    → HaveOwnIndexes table
    → LacksOfTable held other table → feature_table_made other table ≡ Ok made → AreFit held made n
    → read_named_table held other (Some table.name) n ≡ (Ok (Some (rebuilt_table table)), n + bytes_in made)
feature_table_again laws held src folder other table n made is agree lacks e fit =
    let grid = table.grid in
    let p = parts_are held (table_made other table.name grid) (indexes_made other table 0 table.indexes) made n e fit in
    let own = table_again laws.tables held (within other table.name) grid n p.front is.grid.writable (made_is other table.name grid p.front p.front_made)
    p.front_fit in
    let agrees = agree_from grid 0 table.indexes
    (λ k i index same at. agree i index (subst (λ (x : ℕ). slice_get table.indexes x ≡ Some (Some index)) (omega (arith, same)) at)) in
    let indexes = indexes_again laws.indexes held other table 0 grid.head.columns table.indexes (n + bytes_in p.front) p.rest is.grid refl is.indexes agrees
    lacks p.rest_made p.rest_fit in
    let both = with_them held other table.name grid own.files (rebuilt_indexes grid 0 table.indexes) n (n + bytes_in p.front)
    (n + bytes_in p.front + bytes_in p.rest) own.read indexes in
    counted_so (read_named_table held other (Some table.name) n) (Some (rebuilt_table table)) (n + bytes_in p.front + bytes_in p.rest) (n + bytes_in made)
    both p.sum

-- ---- feature tables

-- a table that an item names and that wasn't there isn't there
abbrev LacksItem : (src held : Files) (folder other : List ℕ) → List ℕ → Type 0
LacksItem src held folder other item = (file : List ℕ) → own_file item ≡ Some file → src (within folder file) ≡ None → Lacks held other file

absent_again : (held : Files) (other : List ℕ) (named : Option (List ℕ)) (n : ℕ) → ((file : List ℕ) → named ≡ Some file → Lacks held other file)
    → read_named_table held other named n ≡ (Ok None, n)
absent_again held other None n lacks = refl
absent_again held other (Some file) n lacks = rw (none_read held (within other file) n (lacks file refl)) refl

tables_then : (held : Files) (other item : List ℕ) (items : List (List ℕ)) (table : Option FeatureTable) (tables : List FeatureTable) (n m k : ℕ)
    → read_named_table held other (own_file item) n ≡ (Ok table, m) → read_feature_tables held other items m ≡ (Ok tables, k)
    → read_feature_tables held other (item ∷ items) n ≡ (Ok (maybe table ++ tables), k)
tables_then held other item items table tables n m k e f = rw (e, f) refl

-- the feature tables of some items are read again
abbrev AreAgain : Files → (other : List ℕ) → List (List ℕ) → List FeatureTable → Type 0
AreAgain held other items tables = (n : ℕ) (made : List File) → feature_tables_made other tables ≡ Ok made → AreFit held made n
    → read_feature_tables held other items n ≡ (Ok (map rebuilt_table tables), n + bytes_in made)

-- what is known of them
record AreWhole (held : Files) (other : List ℕ) (tables : List FeatureTable) : Type 0 where
  agree : AllByRecursion HaveOwnIndexes tables
  lack : AllByRecursion (LacksOfTable held other) tables

one_again : AgainLaws → (src held : Files) (folder other item : List ℕ) (items : List (List ℕ)) (table : Option FeatureTable) (rest : List FeatureTable)
    → IsItem src folder (own_file item) table → LacksItem src held folder other item → AreWhole held other (maybe table ++ rest)
    → (AreWhole held other rest → AreAgain held other items rest)
    → AreAgain held other (item ∷ items) (maybe table ++ rest)
one_again laws src held folder other item items None rest is lacks whole next n made e fit =
    let absent = absent_again held other (own_file item) n (λ file named. lacks file named (is file named)) in
    tables_then held other item items None (map rebuilt_table rest) n n (n + bytes_in made) absent (next whole n made e fit)
one_again laws src held folder other item items (Some table) rest is lacks whole next n made e fit =
    let p = parts_are held (feature_table_made other table) (feature_tables_made other rest) made n e fit in
    let here = feature_table_again laws held src folder other table n p.front is.read whole.agree.0 whole.lack.0 p.front_made p.front_fit in
    let named : read_named_table held other (own_file item) n ≡ (Ok (Some (rebuilt_table table)), n + bytes_in p.front) =
    subst (λ (x : Option (List ℕ)). read_named_table held other x n ≡ (Ok (Some (rebuilt_table table)), n + bytes_in p.front)) (sym is.file) here in
    let later = next (record { agree = whole.agree.1; lack = whole.lack.1 }) (n + bytes_in p.front) p.rest p.rest_made p.rest_fit in
    let all = rebuilt_table table ∷ map rebuilt_table rest in
    let both = tables_then held other item items (Some (rebuilt_table table)) (map rebuilt_table rest) n (n + bytes_in p.front)
    (n + bytes_in p.front + bytes_in p.rest) named later in
    counted_so (read_feature_tables held other (item ∷ items) n) all (n + bytes_in p.front + bytes_in p.rest) (n + bytes_in made) both p.sum

none_again : (held : Files) (other : List ℕ) → AreAgain held other [] []
none_again held other n made e fit = counted_so (read_feature_tables held other [] n) [] n (n + bytes_in made) refl (no_files made n e)

tables_again : AgainLaws → (src held : Files) (folder other : List ℕ) (items : List (List ℕ)) (tables : List FeatureTable) → AreItems src folder items tables
    → AllByRecursion (LacksItem src held folder other) items → AreWhole held other tables → AreAgain held other items tables
tables_again laws src held folder other [] tables are lacks whole = subst (AreAgain held other []) are (none_again held other)
tables_again laws src held folder other (item ∷ items) tables are lacks whole =
    subst (AreAgain held other (item ∷ items)) are.2
    (one_again laws src held folder other item items are.0 are.1 are.3 lacks.0 (subst (AreWhole held other) (sym are.2) whole)
    (λ rest. tables_again laws src held folder other items are.1 are.4 lacks.1 rest))

-- ---- what wasn't there

-- a feature table was there
abbrev WasThere : Files → (folder : List ℕ) → FeatureTable → Type 0
WasThere src folder table = src (within folder table.name) ≡ None → ⊥

item_there : (src : Files) (folder : List ℕ) (named : Option (List ℕ)) (table : Option FeatureTable) (rest : List FeatureTable) → IsItem src folder named table
    → AllByRecursion (WasThere src folder) rest → AllByRecursion (WasThere src folder) (maybe table ++ rest)
item_there src folder named None rest is h = h
item_there src folder named (Some table) rest is h = (is.read.there, h)

items_there : (src : Files) (folder : List ℕ) (items : List (List ℕ)) (tables : List FeatureTable) → AreItems src folder items tables
    → AllByRecursion (WasThere src folder) tables
items_there src folder [] tables are = subst (AllByRecursion (WasThere src folder)) are tt
items_there src folder (item ∷ items) tables are =
    subst (AllByRecursion (WasThere src folder)) are.2
    (item_there src folder (own_file item) are.0 are.1 are.3 (items_there src folder items are.1 are.4))

found_none : (src : Files) (folder file : List ℕ) (table : FeatureTable) (same : Bool) (rest : Option FeatureTable) → src (within folder file) ≡ None
    → WasThere src folder table
    → bytes_eq table.name file ≡ same → rest ≡ None → cond same (Some table) rest ≡ None
found_none src folder file table true rest absent there e h =
    let one : table.name ≡ file = (bytes_decides table.name file).0 e in
    absurd (there (subst (λ (x : List ℕ). src (within folder x) ≡ None) (sym one) absent))
found_none src folder file table false rest absent there e h = h

-- no feature table has the name of a file that wasn't there
none_in_file : (src : Files) (folder file : List ℕ) (tables : List FeatureTable) → src (within folder file) ≡ None → AllByRecursion (WasThere src folder) tables
    → table_in_file tables file ≡ None
none_in_file src folder file [] absent h = refl
none_in_file src folder file (table ∷ tables) absent h =
    found_none src folder file table (bytes_eq table.name file) (table_in_file tables file) absent h.0 refl (none_in_file src folder file tables absent h.1)

lacks_items : (src held : Files) (folder other : List ℕ) (tables : List FeatureTable) (items : List (List ℕ)) → AllByRecursion (WasThere src folder) tables
    → AllByRecursion (λ item. (file : List ℕ) → own_file item ≡ Some file → table_in_file tables file ≡ None → Lacks held other file) items
    → AllByRecursion (LacksItem src held folder other) items
lacks_items src held folder other tables [] there h = tt
lacks_items src held folder other tables (item ∷ items) there h =
    (λ file named absent. h.0 file named (none_in_file src folder file tables absent there), lacks_items src held folder other tables items there h.1)

-- ---- the schema table

schema_then : (held : Files) (other : List ℕ) (fcs : Option Grid) (tables : List FeatureTable) (n m k : ℕ)
    → read_schema_table held (schema_name other) n ≡ (Ok fcs, m)
    → read_feature_tables held other (feature_items (joins_of fcs)) m ≡ (Ok tables, k)
    → read_schema held other n ≡ (Ok (record { fcs = fcs; tables = tables }), k)
schema_then held other fcs tables n m k e f = rw (e, f) refl

no_schema : (held : Files) (name : List ℕ) (n : ℕ) → held name ≡ None → read_schema_table held name n ≡ (Ok None, n)
no_schema held name n e = rw e refl

looked_again : (held : Files) (name bytes : List ℕ) (grid : Grid) (n m : ℕ) → read_optional held name n ≡ (Ok (Some bytes), m) → table_of bytes ≡ Ok grid
    → varies_in grid.head.columns ≡ false → schema_finding grid ≡ None → read_schema_table held name n ≡ (Ok (Some grid), m)
looked_again held name bytes grid n m e table fixed columns = rw (e, table, fixed, columns) refl

schema_table_again : AgainLaws → (held : Files) (other : List ℕ) (grid : Grid) (n : ℕ) (made : List File) → IsSchemaGrid grid
    → table_made other (codes "fcs") grid ≡ Ok made
    → AreFit held made n → read_schema_table held (schema_name other) n ≡ (Ok (Some grid), n + bytes_in made)
schema_table_again laws held other grid n made is e fit =
    let name = schema_name other in
    let bytes = canonical_table grid in
    let m = made_is other (codes "fcs") grid made e in
    let one = one_made name grid made is.fixed m in
    let own = subst (λ (files : List File). AreFit held files n) one fit in
    let table = laws.tables.again grid is.grid_is.writable m.none in
    let read = looked_again held name bytes grid n (n + length bytes) (one_read held name bytes n own) table is.fixed is.columns in
    let size = ap bytes_in one in
    let sum : n + length bytes ≡ n + bytes_in made = omega (arith, size) in
    counted_so (read_schema_table held name n) (Some grid) (n + length bytes) (n + bytes_in made) read sum

-- ---- the whole

-- a schema is read again
abbrev IsAgain : Files → (other : List ℕ) → Option Grid → List FeatureTable → Type 0
IsAgain held other fcs tables = (n : ℕ) (made : List File) → schema_made other fcs tables ≡ Ok made → AreFit held made n
    → read_schema held other n ≡ (Ok (record { fcs = fcs; tables = map rebuilt_table tables }), n + bytes_in made)

without_schema : (held : Files) (other : List ℕ) (tables : List FeatureTable) → [] ≡ tables → held (schema_name other) ≡ None → IsAgain held other None tables
without_schema held other tables none absent = subst (IsAgain held other None) none by
  where
    by : IsAgain held other None []
    by n made e fit =
        let none = schema_then held other None [] n n n (no_schema held (schema_name other) n absent) refl in
        counted_so (read_schema held other n) (record { fcs = None; tables = [] }) n (n + bytes_in made) none (no_files made n e)

with_schema : AgainLaws → (held : Files) (other : List ℕ) (grid : Grid) (tables : List FeatureTable) → IsSchemaGrid grid
    → AreAgain held other (feature_items (joins_of (Some grid))) tables → IsAgain held other (Some grid) tables
with_schema laws held other grid tables is next n made e fit =
    let p = parts_are held (table_made other (codes "fcs") grid) (feature_tables_made other tables) made n e fit in
    let first = schema_table_again laws held other grid n p.front is p.front_made p.front_fit in
    let rest = next (n + bytes_in p.front) p.rest p.rest_made p.rest_fit in
    let both = schema_then held other (Some grid) (map rebuilt_table tables) n (n + bytes_in p.front) (n + bytes_in p.front + bytes_in p.rest) first rest in
    counted_so (read_schema held other n) (record { fcs = Some grid; tables = map rebuilt_table tables }) (n + bytes_in p.front + bytes_in p.rest)
    (n + bytes_in made) both p.sum

schema_again : AgainLaws → (src held : Files) (folder other : List ℕ) (fcs : Option Grid) (tables : List FeatureTable) → IsSchemaOption fcs
    → AreItems src folder (feature_items (joins_of fcs)) tables → (fcs ≡ None → held (schema_name other) ≡ None)
    → AllByRecursion (LacksItem src held folder other) (feature_items (joins_of fcs)) → AreWhole held other tables → IsAgain held other fcs tables
schema_again laws src held folder other None tables is items absent lacks whole = without_schema held other tables items (absent refl)
schema_again laws src held folder other (Some grid) tables is items absent lacks whole =
    with_schema laws held other grid tables is (tables_again laws src held folder other (feature_items (joins_of (Some grid))) tables items lacks whole)

pub written_again : ReadLaws → AgainLaws → WrittenAreRead
written_again reads laws folder other S made held loaded r agree e there lacks few =
    let source = source_is reads folder S r in
    let items = lacks_items r.held held folder other S.tables (feature_items (joins_of S.fcs))
    (items_there r.held folder (feature_items (joins_of S.fcs)) S.tables source.items) lacks.tables in
    schema_again laws r.held held folder other S.fcs S.tables source.schema source.items lacks.fcs items
    (record { agree = agree.indexes; lack = lacks.indexes }) loaded made e
    (record { there = there; few = few })
