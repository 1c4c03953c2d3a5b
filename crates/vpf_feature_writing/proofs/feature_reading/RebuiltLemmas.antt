-- Features that agree, agree where their thematic indexes are built anew.
use Rattle.std.proofs.Common.{[], ◌≡◌, ℕ, zero, suc, ◌+◌, true, List, ◌∷◌, map, Option, Some, None, refl, sym, ap, subst, ◌∙◌, arith}
use Rattle.std.specs.Prelude.{All, slice_get}
use Rattle.std.specs.List.{AllByRecursion}
use Rattle.std.proofs.lemmas.Option.{same_Some}
use Rattle.vpf_source.specs.Files.{Files}
use Rattle.vpf_triplet.specs.declared.kinds.Count.TheVariants.{Fixed}
use Rattle.vpf_value.specs.Inner.Fitting.{FitsCell}
use Rattle.vpf_value.specs.Values.{Value}
use Rattle.vpf_head.specs.Head.{Col}
use Rattle.vpf_table.specs.Canonical.{IsWritable}
use Rattle.vpf_table.specs.Grid.{Grid}
use Rattle.vpf_theme.specs.declared.layout.Form.{Form}
use Rattle.vpf_theme.specs.Agreeing.{AgreesWithColumn}
use Rattle.vpf_theme.specs.Entries.{Theme}
use Rattle.vpf_theme.specs.Findings.{cells_of}
use Rattle.vpf_theme.specs.Layouts.{is_indexed}
use Rattle.vpf_theme_build.specs.Building.{index_for}
use Rattle.vpf_feature_files.specs.SchemaRows.Joins.{feature_items}
use Rattle.vpf_feature_files.specs.Schemas.{FeatureTable, Index, joins_of}
use Rattle.vpf_features.specs.FeatureAgreement.Agreeing.{AreFeatures, HaveOwnIndexes}
use Rattle.vpf_feature_writing.specs.FeatureReading.Laws.{WrittenAgrees}
use Rattle.vpf_feature_writing.specs.FeatureReading.Rebuilt.{rebuilt_index, rebuilt_indexes, rebuilt_table}
use Rattle.vpf_theme_build.specs.Inner.BuildLaws.{cells_fit, one_column}
use Rattle.vpf_feature_writing.proofs.feature_reading.SourceLemmas.{IsItemRead, IsTableRead, source_is, tables_read}
use Rattle.vpf_feature_writing.proofs.feature_reading.SourceTables.{AreNamed, ReadLaws}
use Rattle.vpf_feature_writing.proofs.feature_reading.ThemeLemmas.{IsIndexed}

-- an index that is built agrees with its column
abbrev pub BuiltAgrees : Type 0
BuiltAgrees = (form : Form) (column : Col) (count : ℕ) (cells : List Value) → column.count ≡ Fixed count → is_indexed column.kind ≡ true
    → All (FitsCell column.kind column.count) cells → AgreesWithColumn (index_for form column count cells) column cells

-- ---- which index is built anew

-- the index of the column at this position, built anew
abbrev pub built_anew : Grid → ℕ → Col → Index → Index
built_anew grid c column index = record { file = index.file; theme = index_for index.theme.form column index.theme.count (cells_of grid c) }

-- it is that of an index that was there, of the column at this position
record Rebuilds (grid : Grid) (c k : ℕ) (indexes : List (Option Index)) (index : Index) : Type 0 where
  old : Index
  column : Col
  there : slice_get indexes k ≡ Some (Some old)
  of : slice_get grid.head.columns c ≡ Some column
  is : built_anew grid c column old ≡ index

first_rebuilt : (grid : Grid) (c : ℕ) (column : Option Col) (old : Option Index) (indexes : List (Option Index)) (index : Index)
    → slice_get grid.head.columns c ≡ column
    → rebuilt_index grid c column old ≡ Some index → Rebuilds grid c zero (old ∷ indexes) index
first_rebuilt grid c column None indexes index of e = absurd (cc e)
first_rebuilt grid c None (Some old) indexes index of e = absurd (cc e)
first_rebuilt grid c (Some column) (Some old) indexes index of e =
    record { old = old; column = column; there = refl; of = of; is = same_Some (built_anew grid c column old) index e }

later_rebuilt : (grid : Grid) (c k : ℕ) (first : Option Index) (indexes : List (Option Index)) (index : Index) → Rebuilds grid c k indexes index
    → Rebuilds grid c (suc k) (first ∷ indexes) index
later_rebuilt grid c k first indexes index r = record { old = r.old; column = r.column; there = r.there; of = r.of; is = r.is }

-- position `c` is that of index `k` of those from position `at` on
which_rebuilt : (grid : Grid) (at c k : ℕ) (indexes : List (Option Index)) (index : Index) → c ≡ at + k
    → slice_get (rebuilt_indexes grid at indexes) k ≡ Some (Some index) → Rebuilds grid c k indexes index
which_rebuilt grid at c k [] index same e = absurd (cc e)
which_rebuilt grid at c zero (old ∷ indexes) index same e =
    let here : at ≡ c = omega (arith, same) in
    let first = first_rebuilt grid at (slice_get grid.head.columns at) old indexes index refl
    (same_Some (rebuilt_index grid at (slice_get grid.head.columns at) old) (Some index) e) in
    subst (λ (n : ℕ). Rebuilds grid n zero (old ∷ indexes) index) here first
which_rebuilt grid at c (suc k) (old ∷ indexes) index same e =
    later_rebuilt grid c k old indexes index (which_rebuilt grid (suc at) c k indexes index (omega (arith, same)) e)

-- ---- it agrees

index_agrees : BuiltAgrees → (grid : Grid) (c : ℕ) (column : Col) (t : Theme) → IsWritable grid → IsIndexed t.kind → slice_get grid.head.columns c ≡ Some column
    → AgreesWithColumn t column (cells_of grid c) → AgreesWithColumn (index_for t.form column t.count (cells_of grid c)) column (cells_of grid c)
index_agrees agrees grid c column t w indexed is old =
    agrees t.form column t.count (cells_of grid c) old.count (subst IsIndexed old.kind indexed) (cells_fit grid c column w.fits is)

-- an index that was read has a kind that can be indexed
read_indexed : (columns : List Col) (indexes : List (Option Index)) (k : ℕ) (index : Index) → AreNamed columns indexes → slice_get indexes k ≡ Some (Some index)
    → IsIndexed index.theme.kind
read_indexed columns [] k index h e = absurd (cc e)
read_indexed [] (first ∷ indexes) k index h e = absurd h
read_indexed (column ∷ columns) (None ∷ indexes) zero index h e = absurd (cc (same_Some None (Some index) e))
read_indexed (column ∷ columns) (Some first ∷ indexes) zero index h e =
    let same = same_Some first index (same_Some (Some first) (Some index) e) in
    subst (λ (x : Index). IsIndexed x.theme.kind) same h.0.can.0
read_indexed (column ∷ columns) (first ∷ indexes) (suc k) index h e = read_indexed columns indexes k index h.1 e

-- ---- those of a table

table_agrees : BuiltAgrees → (src : Files) (folder : List ℕ) (table : FeatureTable) → IsTableRead src folder table → HaveOwnIndexes table
    → HaveOwnIndexes (rebuilt_table table)
table_agrees agrees src folder table is have c index e column of =
    let r = which_rebuilt table.grid 0 c c table.indexes index (omega arith) e in
    let indexed = read_indexed table.grid.head.columns table.indexes c r.old is.indexes r.there in
    let old = have c r.old r.there column of in
    let same = one_column table.grid.head.columns c r.column column r.of of in
    let now = index_agrees agrees table.grid c column r.old.theme is.grid.writable indexed of old in
    let one : built_anew table.grid c column r.old ≡ index = ap (λ (x : Col). built_anew table.grid c x r.old) (sym same) ∙ r.is in
    subst (λ (x : Index). AgreesWithColumn x.theme column (cells_of table.grid c)) one now

tables_agree : BuiltAgrees → (src : Files) (folder : List ℕ) (tables : List FeatureTable) → AllByRecursion (IsItemRead src folder) tables
    → AllByRecursion HaveOwnIndexes tables → AllByRecursion HaveOwnIndexes (map rebuilt_table tables)
tables_agree agrees src folder [] are have = tt
tables_agree agrees src folder (table ∷ tables) are have =
    (table_agrees agrees src folder table are.0.read have.0, tables_agree agrees src folder tables are.1 have.1)

-- the features themselves are the same
same_features : (tables : List FeatureTable) → AllByRecursion (λ (table : FeatureTable). AreFeatures table.grid) tables
    → AllByRecursion (λ (table : FeatureTable). AreFeatures table.grid) (map rebuilt_table tables)
same_features [] h = tt
same_features (table ∷ tables) h = (h.0, same_features tables h.1)

pub written_agrees : BuiltAgrees → ReadLaws → WrittenAgrees
written_agrees agrees laws folder S r agree =
    let source = source_is laws folder S r in
    let are = tables_read r.held folder (feature_items (joins_of S.fcs)) S.tables source.items in
    record { features = same_features S.tables agree.features; indexes = tables_agree agrees r.held folder S.tables are agree.indexes }
