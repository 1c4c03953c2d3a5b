-- The names of the files of features that are written: none is that of a feature table that wasn't there, nor of the edges that were.
use Rattle.std.proofs.Common.{[], ◌≡◌, ◌≢◌, ℕ, suc, ◌+◌, ◌≤◌, Bool, true, false, cond, List, ◌∷◌, ◌++◌, length, nat_le, Option, Some, None, Result, Ok, Err, refl, sym, ap, subst, ◌∙◌, arith}
use Rattle.std.specs.Prelude.{IfSome, codes, slice_get}
use Rattle.std.specs.Cmp.Lexicographic.{bytes_decides}
use Rattle.std.specs.List.{AllByRecursion}
use Rattle.std.specs.Str.{bytes_eq}
use Rattle.std.proofs.lemmas.Bool.{leb-true}
use Rattle.vpf_base.proofs.Booleans.{clash}
use Rattle.vpf_base.proofs.Lists.{all_joined}
use Rattle.vpf_base.proofs.Options.{none_past, some_is}
use Rattle.vpf_base.specs.Bytes.{IsBytes}
use Rattle.vpf_base.specs.Limits.{most_bytes}
use Rattle.vpf_source.specs.Files.{Files}
use Rattle.vpf_source.specs.declared.file.File.{File}
use Rattle.vpf_head.specs.Head.{Col}
use Rattle.vpf_table.specs.Canonical.{canonical_index}
use Rattle.vpf_table.specs.Grid.{Grid}
use Rattle.vpf_table.specs.Reading.{table_of}
use Rattle.vpf_table.specs.Spelling.{IsTable}
use Rattle.vpf_theme.specs.Findings.{cells_of}
use Rattle.vpf_theme_build.specs.declared.errors.BuildError.{BuildError}
use Rattle.vpf_theme_build.specs.declared.errors.BuildError.TheVariants as builds
use Rattle.vpf_theme_build.specs.Building.{built_by}
use Rattle.vpf_write.specs.Made.Files.{index_files}
use Rattle.vpf_library_files.specs.declared.loading.loading.LoadStop.{LoadStop}
use Rattle.vpf_library_files.specs.Loading.Loading.{◌and_then◌, loaded_file, most_loaded, read_found, read_optional, within}
use Rattle.vpf_library_files.specs.Inner.Loading.StepLaws.{gives, no_value, steps, stopped, value_is}
use Rattle.vpf_feature_files.specs.Inner.Laws.{ReadSchemaIsHeld}
use Rattle.vpf_feature_files.specs.Reading.{read_feature_tables, read_schema_table, schema_in, schema_name}
use Rattle.vpf_feature_files.specs.SchemaRows.Items.{own_file}
use Rattle.vpf_feature_files.specs.SchemaRows.Joins.{feature_items}
use Rattle.vpf_feature_files.specs.Schemas.{FeatureTable, Index, Schema, joins_of, table_in_file}
use Rattle.vpf_feature_writing.specs.FeatureReading.Laws.{IsReadSchema}
use Rattle.vpf_feature_writing.specs.Inner.FeatureReading.HeldLaws.{no_ok, ok_is}
use Rattle.vpf_feature_writing.specs.Inner.FeatureReading.Names.{HaveOtherNames, ReadLacksTables, WrittenLacksEdges, WrittenLacksTables}
use Rattle.vpf_feature_writing.specs.Making.{Made, feature_table_made, feature_tables_made, features_made, index_made, index_made_by, indexes_made, made_then, schema_made, table_made}
use Rattle.vpf_feature_writing.proofs.feature_reading.HeldFeatures.{IsHeldOption, IsHeldSource, IsHeldTable, IsLacking, source_held}
use Rattle.vpf_feature_writing.specs.Inner.FeatureReading.EndingLaws.{EndsIn, NamesFeatures, edges_end, ends_within, feature_ends, index_ends, items_name, one_within, other_ends, schema_ends}
use Rattle.vpf_feature_writing.proofs.feature_reading.SourceLemmas.{schema_with}
use Rattle.vpf_feature_writing.proofs.feature_reading.TableLemmas.{made_is}
use Rattle.vpf_feature_writing.proofs.feature_reading.TableTheme.{not_both}

-- ---- the names of files that are made

-- a thematic index, if it is there, is in another file
abbrev IsOtherIndex : (name : List ℕ) → Option Index → Type 0
IsOtherIndex name index = IfSome index (λ (i : Index). i.file ≢ name)

-- a feature table is in another file, and so are its thematic indexes
record IsOtherTable (name : List ℕ) (table : FeatureTable) : Type 0 where
  own : table.name ≢ name
  themes : AllByRecursion (IsOtherIndex name) table.indexes

-- a name that ends neither as that of a schema table nor as that of a variable-length index
record IsOtherEnd (name : List ℕ) : Type 0 where
  letter : ℕ
  ends : EndsIn letter name
  no_schema : 115 ≡ letter → ⊥
  no_index : 120 ≡ letter → ⊥

-- where files are made, they have other names than this one in the folder
abbrev Others : (folder name : List ℕ) → Made → Type 0
Others folder name made = (files : List File) → made ≡ Ok files → HaveOtherNames files folder name

no_others : (folder name : List ℕ) → Others folder name (Ok [])
no_others folder name files e = subst (λ (x : List File). HaveOtherNames x folder name) (ok_is [] files e) tt

then_others : (folder name : List ℕ) (first later : Made) → Others folder name first → Others folder name later → Others folder name (made_then first later)
then_others folder name (Ok front) (Ok rest) a b files e =
    subst (λ (x : List File). HaveOtherNames x folder name) (ok_is (front ++ rest) files e)
    (all_joined (λ (file : File). file.name ≢ within folder name) front rest (a front refl) (b rest refl))
then_others folder name (Ok front) (Err error) a b files e = absurd (no_ok files error e)
then_others folder name (Err error) later a b files e = absurd (no_ok files error e)

-- a table and its variable-length index
index_others : (folder name table : List ℕ) (index : Option (List ℕ)) → IsOtherEnd name → HaveOtherNames (index_files table index) folder name
index_others folder name table None end = tt
index_others folder name table (Some bytes) end =
    (other_ends 120 end.letter _ (within folder name) (index_ends table) (ends_within folder name end.letter end.ends) end.no_index, tt)

table_others : (folder name file : List ℕ) (grid : Grid) → IsOtherEnd name → file ≢ name → Others folder name (table_made folder file grid)
table_others folder name file grid end other files e =
    subst (λ (x : List File). HaveOtherNames x folder name) (sym (made_is folder file grid files e).are) (
      λ same. other (one_within folder file name same),
      index_others folder name (within folder file) (canonical_index grid) end,
    )

-- a thematic index
built_others : (folder name file : List ℕ) (built : Result (List ℕ) BuildError) → file ≢ name → Others folder name (index_made_by (within folder file) built)
built_others folder name file (Ok bytes) other files e =
    subst (λ (x : List File). HaveOtherNames x folder name) (ok_is (loaded_file (within folder file) bytes ∷ []) files e)
    (λ same. other (one_within folder file name same), tt)
built_others folder name file (Err (builds.Limit size)) other files e = absurd (cc e)
built_others folder name file (Err builds.Kind) other files e = no_others folder name files e
built_others folder name file (Err builds.NoMemory) other files e = no_others folder name files e

theme_others : (folder name : List ℕ) (table : FeatureTable) (c : ℕ) (column : Option Col) (index : Option Index) → IsOtherIndex name index
    → Others folder name (index_made folder table c column index)
theme_others folder name table c column None other = no_others folder name
theme_others folder name table c None (Some index) other = no_others folder name
theme_others folder name table c (Some column) (Some index) other =
    built_others folder name index.file (built_by table.grid.head.order table.name index.theme.form column (cells_of table.grid c) column.count) other

themes_others : (folder name : List ℕ) (table : FeatureTable) (c : ℕ) (indexes : List (Option Index)) → AllByRecursion (IsOtherIndex name) indexes
    → Others folder name (indexes_made folder table c indexes)
themes_others folder name table c [] others = no_others folder name
themes_others folder name table c (index ∷ indexes) others =
    let column = slice_get table.grid.head.columns c in
    then_others folder name (index_made folder table c column index) (indexes_made folder table (suc c) indexes)
    (theme_others folder name table c column index others.0) (themes_others folder name table (suc c) indexes others.1)

-- feature tables, and behind each its thematic indexes
tables_others : (folder name : List ℕ) (tables : List FeatureTable) → IsOtherEnd name → AllByRecursion (IsOtherTable name) tables
    → Others folder name (feature_tables_made folder tables)
tables_others folder name [] end others = no_others folder name
tables_others folder name (table ∷ tables) end others =
    then_others folder name (feature_table_made folder table) (feature_tables_made folder tables)
    (then_others folder name (table_made folder table.name table.grid) (indexes_made folder table 0 table.indexes)
    (table_others folder name table.name table.grid end others.0.own) (themes_others folder name table 0 table.indexes others.0.themes))
    (tables_others folder name tables end others.1)

-- the schema table, and behind it the feature tables
schema_others : (folder name : List ℕ) (fcs : Option Grid) (tables : List FeatureTable) → IsOtherEnd name
    → ((grid : Grid) → fcs ≡ Some grid → AllByRecursion (IsOtherTable name) tables) → Others folder name (schema_made folder fcs tables)
schema_others folder name None tables end others = no_others folder name
schema_others folder name (Some grid) tables end others =
    then_others folder name (table_made folder (codes "fcs") grid) (feature_tables_made folder tables)
    (table_others folder name (codes "fcs") grid end (other_ends 115 end.letter (codes "fcs") name schema_ends end.ends end.no_schema))
    (tables_others folder name tables end (others grid refl))

-- ---- where a schema table was read, the folder held the features

small_so : (a b : Bool) (bytes found : List ℕ) (p q : LoadStop) (n m k : ℕ)
    → cond a (cond b (gives (Some bytes) n) (stopped p m)) (stopped q m) ≡ (Ok (Some found), k) → b ≡ true
small_so true true bytes found p q n m k e = refl
small_so true false bytes found p q n m k e = absurd (no_value p m k (Some found) e)
small_so false b bytes found p q n m k e = absurd (no_value q m k (Some found) e)

few_before : (name : List ℕ) (file : Option (List ℕ)) (n k : ℕ) (bytes : List ℕ) → read_found name file n ≡ (Ok (Some bytes), k) → n ≤ most_loaded
few_before name None n k bytes e = absurd (cc (value_is None (Some bytes) n k e))
few_before name (Some own) n k bytes e =
    let most = small_so (nat_le (length own) most_bytes) (nat_le (n + length own) most_loaded) own bytes _ _ (n + length own) n k e in
    let few = leb-true (n + length own) most_loaded most in
    omega (arith, few)

found_few : (src : Files) (name : List ℕ) (found : Option (List ℕ)) (grid : Grid) (n m k : ℕ) → read_optional src name n ≡ (Ok found, m)
    → schema_in name found m ≡ (Ok (Some grid), k) → n ≤ most_loaded
found_few src name None grid n m k read e = absurd (cc (value_is None (Some grid) m k e))
found_few src name (Some bytes) grid n m k read e = few_before name (src name) n m bytes read

-- few bytes were read before
read_few : (folder : List ℕ) (S : Schema) (grid : Grid) → (r : IsReadSchema folder S) → S.fcs ≡ Some grid → r.before ≤ most_loaded
read_few folder S grid r is =
    let name = schema_name folder in
    let first = steps (read_schema_table r.held name r.before)
    (λ fcs m. read_feature_tables r.held folder (feature_items (joins_of fcs)) m and_then λ tables m. gives (schema_with fcs tables) m) S r.behind r.read in
    let rest = steps (read_feature_tables r.held folder (feature_items (joins_of first.0)) first.1) (λ tables m. gives (schema_with first.0 tables) m) S
    r.behind first.3 in
    let same : first.0 ≡ Some grid = ap (λ (x : Schema). x.fcs) (value_is (schema_with first.0 rest.0) S rest.1 r.behind rest.3) ∙ is in
    let read = subst (λ (x : Option Grid). read_schema_table r.held name r.before ≡ (Ok x, first.1)) same first.2 in
    let own = steps (read_optional r.held name r.before) (schema_in name) (Some grid) first.1 read in
    found_few r.held name own.0 grid r.before own.1 first.1 own.2 own.3

held_there : ReadSchemaIsHeld → (folder : List ℕ) (S : Schema) (grid : Grid) → (r : IsReadSchema folder S) → S.fcs ≡ Some grid → IsHeldSource r.held folder S
held_there held folder S grid r is =
    source_held r.held folder S r.before (held r.held folder S r.before r.behind r.bytes (read_few folder S grid r is) r.read).0

-- ---- feature tables that weren't there

absent_end : (file : List ℕ) → EndsIn 116 file → IsOtherEnd file
absent_end file ends = record { letter = 116; ends = ends; no_schema = λ e. omega (arith, e); no_index = λ e. omega (arith, e) }

-- what is held isn't absent
theme_there : (held : Files) (folder file : List ℕ) (index : Option Index) → held (within folder file) ≡ None → IsHeldOption held folder index
    → IsOtherIndex file index
theme_there held folder file None absent is = tt
theme_there held folder file (Some index) absent is =
    λ same. let there = subst (λ (x : List ℕ). held (within folder x) ≡ Some is.bytes) same is.there in cc (sym there ∙ absent)

themes_there : (held : Files) (folder file : List ℕ) (indexes : List (Option Index)) → held (within folder file) ≡ None
    → AllByRecursion (IsHeldOption held folder) indexes → AllByRecursion (IsOtherIndex file) indexes
themes_there held folder file [] absent are = tt
themes_there held folder file (index ∷ indexes) absent are =
    (theme_there held folder file index absent are.0, themes_there held folder file indexes absent are.1)

tables_there : (held : Files) (folder file : List ℕ) (tables : List FeatureTable) → held (within folder file) ≡ None → table_in_file tables file ≡ None
    → AllByRecursion (IsHeldTable held folder) tables → AllByRecursion (IsOtherTable file) tables
tables_there held folder file [] absent none are = tt
tables_there held folder file (table ∷ tables) absent none are =
    let past = none_past (bytes_eq table.name file) table (table_in_file tables file) none in (
      record {
        own = λ same. clash (bytes_eq table.name file) ((bytes_decides table.name file).1 same) past.0;
        themes = themes_there held folder file table.indexes absent are.0.themes;
      },
      tables_there held folder file tables absent past.1 are.1,
    )

-- the files that are made have other names than an item's that is lacking
abbrev ItemOthers : (folder : List ℕ) → List FeatureTable → List File → List ℕ → Type 0
ItemOthers folder tables made item = (file : List ℕ) → own_file item ≡ Some file → table_in_file tables file ≡ None → HaveOtherNames made folder file

item_others : (held : Files) (source folder item : List ℕ) (S : Schema) (made : List File) → AllByRecursion (IsHeldTable held source) S.tables
    → features_made folder S ≡ Ok made → NamesFeatures item → IsLacking held source S.tables item → ItemOthers folder S.tables made item
item_others held source folder item S made tables e names lacks file named none =
    schema_others folder file S.fcs S.tables (absent_end file (feature_ends item file names named))
    (λ grid is. tables_there held source file S.tables (lacks file named none) none tables) made e

items_others : (held : Files) (source folder : List ℕ) (items : List (List ℕ)) (S : Schema) (made : List File)
    → AllByRecursion (IsHeldTable held source) S.tables → features_made folder S ≡ Ok made → AllByRecursion NamesFeatures items
    → AllByRecursion (IsLacking held source S.tables) items → AllByRecursion (ItemOthers folder S.tables made) items
items_others held source folder [] S made tables e names lacks = tt
items_others held source folder (item ∷ items) S made tables e names lacks =
    (item_others held source folder item S made tables e names.0 lacks.0, items_others held source folder items S made tables e names.1 lacks.1)

pub written_lacks_tables : ReadSchemaIsHeld → WrittenLacksTables
written_lacks_tables held source folder S made w = by S.fcs refl
  where
    by : (fcs : Option Grid) → S.fcs ≡ fcs → AllByRecursion (ItemOthers folder S.tables made) (feature_items (joins_of fcs))
    by None is = tt
    by (Some grid) is =
        let there = held_there held source S grid w.read is in
        let lacks = subst (λ (x : Option Grid). AllByRecursion (IsLacking w.read.held source S.tables) (feature_items (joins_of x))) is there.lacks in
        items_others w.read.held source folder (feature_items (joins_of (Some grid))) S made there.tables w.files_are (items_name (joins_of (Some grid))) lacks

pub read_lacks_tables : ReadSchemaIsHeld → ReadLacksTables
read_lacks_tables held folder S r = by S.fcs refl
  where
    by : (fcs : Option Grid) → S.fcs ≡ fcs → AllByRecursion (IsLacking r.held folder S.tables) (feature_items (joins_of fcs))
    by None is = tt
    by (Some grid) is =
        subst (λ (x : Option Grid). AllByRecursion (IsLacking r.held folder S.tables) (feature_items (joins_of x))) is (held_there held folder S grid r is).lacks

-- ---- edges

edges_other_end : IsOtherEnd (codes "edg")
edges_other_end = record { letter = 103; ends = edges_end; no_schema = λ e. omega (arith, e); no_index = λ e. omega (arith, e) }

-- a file that is a table is no thematic index
theme_no_table : (held : Files) (folder file bytes : List ℕ) (grid : Grid) (index : Option Index) → held (within folder file) ≡ Some bytes → IsTable grid bytes
    → IsHeldOption held folder index → IsOtherIndex file index
theme_no_table held folder file bytes grid None there table is = tt
theme_no_table held folder file bytes grid (Some index) there table is =
    λ same. let own = subst (λ (x : List ℕ). held (within folder x) ≡ Some is.bytes) same is.there in
    let one : bytes ≡ is.bytes = some_is bytes is.bytes (sym there ∙ own) in
    not_both grid is.bytes is.order index.theme (subst (IsTable grid) one table) is.spelled is.few

themes_no_tables : (held : Files) (folder file bytes : List ℕ) (grid : Grid) (indexes : List (Option Index)) → held (within folder file) ≡ Some bytes
    → IsTable grid bytes → AllByRecursion (IsHeldOption held folder) indexes → AllByRecursion (IsOtherIndex file) indexes
themes_no_tables held folder file bytes grid [] there table are = tt
themes_no_tables held folder file bytes grid (index ∷ indexes) there table are =
    (theme_no_table held folder file bytes grid index there table are.0, themes_no_tables held folder file bytes grid indexes there table are.1)

tables_no_edges : (held : Files) (folder bytes : List ℕ) (grid : Grid) (tables : List FeatureTable) → held (within folder (codes "edg")) ≡ Some bytes
    → IsTable grid bytes → AllByRecursion (IsHeldTable held folder) tables → AllByRecursion (IsOtherTable (codes "edg")) tables
tables_no_edges held folder bytes grid [] there table are = tt
tables_no_edges held folder bytes grid (first ∷ tables) there table are = (
  record {
    own = other_ends 116 103 first.name (codes "edg") are.0.ends edges_end (λ e. omega (arith, e));
    themes = themes_no_tables held folder (codes "edg") bytes grid first.indexes there table are.0.themes;
  },
  tables_no_edges held folder bytes grid tables there table are.1,
)

-- a table that is read of bytes is spelled so
abbrev pub ReadIsSpelled : Type 0
ReadIsSpelled = (bytes : List ℕ) (grid : Grid) → IsBytes bytes → table_of bytes ≡ Ok grid → IsTable grid bytes

pub written_lacks_edges : ReadSchemaIsHeld → ReadIsSpelled → WrittenLacksEdges
written_lacks_edges held spelled source folder S made w bytes grid there read =
    let are : IsBytes bytes = subst (λ o. IfSome o IsBytes) there (w.read.bytes (within source (codes "edg"))) in
    let table = spelled bytes grid are read in
    schema_others folder (codes "edg") S.fcs S.tables edges_other_end
    (λ fcs is. tables_no_edges w.read.held source bytes grid S.tables there table (held_there held source S fcs w.read is).tables) made w.files_are
