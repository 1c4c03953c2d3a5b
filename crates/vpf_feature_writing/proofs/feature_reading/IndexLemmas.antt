-- Thematic indexes that are built anew of the columns of a table are read again.
use Rattle.std.proofs.Common.{[], ◌≡◌, ℕ, zero, suc, ◌+◌, ◌≤◌, Bool, true, false, cond, List, ◌∷◌, length, nat_le, Option, Some, None, Ok, Err, refl, sym, ap, subst, ◌∙◌, arith}
use Rattle.std.specs.Prelude.{drop, slice_get}
use Rattle.std.proofs.lemmas.Bool.{leb-true}
use Rattle.vpf_base.specs.Limits.{most_bytes}
use Rattle.vpf_source.specs.Files.{Files}
use Rattle.vpf_source.specs.declared.file.File.{File}
use Rattle.vpf_base.specs.declared.orders.Order.{Order}
use Rattle.vpf_triplet.specs.declared.kinds.Count.{Count}
use Rattle.vpf_triplet.specs.declared.kinds.Count.TheVariants.{Fixed}
use Rattle.vpf_value.specs.Values.{Value}
use Rattle.vpf_head.specs.Head.{Col}
use Rattle.vpf_table.specs.Grid.{Grid}
use Rattle.vpf_theme.specs.declared.layout.Form.{Form}
use Rattle.vpf_theme.specs.Agreeing.{AgreesAt, AgreesWithColumn}
use Rattle.vpf_theme.specs.Entries.{Theme}
use Rattle.vpf_theme.specs.Findings.{cells_of}
use Rattle.vpf_theme.specs.Layouts.{is_count, is_indexed}
use Rattle.vpf_theme.specs.Reading.{theme_of}
use Rattle.vpf_theme_build.specs.declared.errors.BuildError.TheVariants as builds
use Rattle.vpf_theme_build.specs.Building.{CanIndex, built_by, index_for, layout_for, within_limit}
use Rattle.vpf_theme_build.specs.Grouping.{entries_for}
use Rattle.vpf_theme_build.specs.Text.{index_len, index_text}
use Rattle.vpf_library_files.specs.Loading.Holding.{bytes_in}
use Rattle.vpf_library_files.specs.Loading.Loading.{loaded_file, within}
use Rattle.vpf_feature_files.specs.Reading.{read_index, read_indexes, read_named_index}
use Rattle.vpf_feature_files.specs.Schemas.{FeatureTable, Index}
use Rattle.vpf_feature_writing.specs.Making.{index_made, index_made_by, indexes_made}
use Rattle.vpf_feature_writing.specs.FeatureReading.Laws.{Lacks, LacksIndexes}
use Rattle.vpf_feature_writing.specs.FeatureReading.Rebuilt.{rebuilt_index, rebuilt_indexes}
use Rattle.vpf_feature_writing.proofs.feature_reading.ColumnLemmas.{cells_many}
use Rattle.vpf_theme_build.specs.Inner.BuildLaws.{cells_fit}
use Rattle.vpf_feature_writing.proofs.feature_reading.HeldLemmas.{AreFit, no_files, none_read, one_read, parts_are}
use Rattle.vpf_library_files.specs.Inner.Loading.HeldLaws.{counted_so}
use Rattle.vpf_feature_writing.proofs.feature_reading.RebuiltLemmas.{built_anew}
use Rattle.vpf_feature_writing.proofs.feature_reading.SourceTables.{AreNamed, IsGrid, IsNamedIndex, IsNamedOption, file_of, index_with}
use Rattle.vpf_feature_writing.proofs.feature_reading.ThemeLemmas.{IsIndexed}

-- the index that is built is read
abbrev pub BuiltIsRead : Type 0
BuiltIsRead = (order : Order) (form : Form) (column : Col) (count : ℕ) (cells : List Value) (table : List ℕ) → CanIndex order form column count cells
    → theme_of order (index_text (layout_for order form column count cells) table column.name (entries_for cells)) ≡ Ok (index_for form column count cells)

-- ---- the file that is made of an index

-- the file holds the index that is built, which isn't too large
record IsBuilt (order : Order) (table : List ℕ) (form : Form) (column : Col) (count : ℕ) (cells : List Value) (name : List ℕ) (made : List File) : Type 0 where
  small : index_len (layout_for order form column count cells) (entries_for cells) ≤ most_bytes
  are : made ≡ loaded_file name (index_text (layout_for order form column count cells) table column.name (entries_for cells)) ∷ []

within_so : (small : Bool) (size : ℕ) (name bytes : List ℕ) (made : List File) → index_made_by name (cond small (Ok bytes) (Err (builds.Limit size))) ≡ Ok made
    → (small ≡ true) × (made ≡ loaded_file name bytes ∷ [])
within_so true size name bytes made e = (refl, cc e)
within_so false size name bytes made e = absurd (cc e)

built_so : (order : Order) (table : List ℕ) (form : Form) (column : Col) (n : ℕ) (count : Count) (cells : List Value) (name : List ℕ) (made : List File)
    → count ≡ Fixed n
    → is_indexed column.kind ≡ true → index_made_by name (built_by order table form column cells count) ≡ Ok made
    → IsBuilt order table form column n cells name made
built_so order table form column n count cells name made fixed indexed e =
    let l = layout_for order form column n cells in
    let size = index_len l (entries_for cells) in
    let text = index_text l table column.name (entries_for cells) in
    let counted : index_made_by name (built_by order table form column cells (Fixed n)) ≡ Ok made =
    subst (λ (x : Count). index_made_by name (built_by order table form column cells x) ≡ Ok made) fixed e in
    let limited : index_made_by name (within_limit size text) ≡ Ok made = rw indexed at counted in
    let w = within_so (nat_le size most_bytes) size name text made limited in
    record { small = leb-true size most_bytes w.0; are = w.1 }

can_index : (grid : Grid) (c : ℕ) (column : Col) (t : Theme) → IsGrid grid → slice_get grid.head.columns c ≡ Some column
    → AgreesWithColumn t column (cells_of grid c)
    → is_indexed column.kind ≡ true → is_count column.kind t.count ≡ true
    → index_len (layout_for grid.head.order t.form column t.count (cells_of grid c)) (entries_for (cells_of grid c)) ≤ most_bytes
    → CanIndex grid.head.order t.form column t.count (cells_of grid c)
can_index grid c column t is at agrees indexed counted small =
    let many = cells_many grid c in
    let few = is.few in
    record {
      fixed = agrees.count;
      indexed = indexed;
      counted = counted;
      fits = cells_fit grid c column is.writable.fits at;
      few = omega (arith, many, few);
      small = small;
    }

-- ---- one index

-- an index that is there agrees with its column
abbrev pub AgreesOption : Grid → ℕ → Option Index → Type 0
AgreesOption grid c None = Unit {0}
AgreesOption grid c (Some index) = AgreesAt index.theme grid c

-- the file that a column names isn't there, where it has no index
abbrev LacksIndex : Files → (folder : List ℕ) → Col → Option Index → Type 0
LacksIndex held folder column None = (file : List ℕ) → file_of column ≡ Some file → Lacks held folder file
LacksIndex held folder column (Some index) = Unit {0}

absent_again : (held : Files) (folder : List ℕ) (order : Order) (named : Option (List ℕ)) (n : ℕ)
    → ((file : List ℕ) → named ≡ Some file → Lacks held folder file)
    → read_named_index held folder order named n ≡ (Ok None, n)
absent_again held folder order None n lacks = refl
absent_again held folder order (Some file) n lacks = rw (none_read held (within folder file) n (lacks file refl)) refl

named_again : (held : Files) (folder file : List ℕ) (order : Order) (named : Option (List ℕ)) (bytes : List ℕ) (theme : Theme) (n : ℕ) → named ≡ Some file
    → AreFit held (loaded_file (within folder file) bytes ∷ []) n → theme_of order bytes ≡ Ok theme
    → read_named_index held folder order named n ≡ (Ok (Some (index_with file theme)), n + bytes_in (loaded_file (within folder file) bytes ∷ []))
named_again held folder file order named bytes theme n same fit e =
    let sum : n + length bytes ≡ n + (length bytes + 0) = omega arith in
    let read : read_named_index held folder order named n ≡ (Ok (Some (index_with file theme)), n + length bytes) =
    rw (same, one_read held (within folder file) bytes n fit, e) refl in
    counted_so (read_named_index held folder order named n) (Some (index_with file theme)) (n + length bytes) (n + (length bytes + 0)) read sum

there_again : BuiltIsRead → (held : Files) (folder : List ℕ) (table : FeatureTable) (c : ℕ) (column : Col) (index : Index) (n : ℕ) (made : List File)
    → IsGrid table.grid
    → slice_get table.grid.head.columns c ≡ Some column → IsNamedIndex (file_of column) index → AgreesAt index.theme table.grid c
    → index_made folder table c (Some column) (Some index) ≡ Ok made → AreFit held made n
    → read_index held folder table.grid.head.order column n ≡ (Ok (Some (built_anew table.grid c column index)), n + bytes_in made)
there_again built held folder table c column index n made is at named agree e fit =
    let grid = table.grid in
    let cells = cells_of grid c in
    let t = index.theme in
    let agrees = agree column at in
    let indexed : is_indexed column.kind ≡ true = subst IsIndexed agrees.kind named.can.0 in
    let counted : is_count column.kind t.count ≡ true = subst (λ kind. is_count kind t.count ≡ true) agrees.kind named.can.1 in
    let b = built_so grid.head.order table.name t.form column t.count column.count cells (within folder index.file) made agrees.count indexed e in
    let can = can_index grid c column t is at agrees indexed counted b.small in
    let bytes = index_text (layout_for grid.head.order t.form column t.count cells) table.name column.name (entries_for cells) in
    let read = built grid.head.order t.form column t.count cells table.name can in
    let own = subst (λ (files : List File). AreFit held files n) b.are fit in
    let again = named_again held folder index.file grid.head.order (file_of column) bytes (index_for t.form column t.count cells) n named.file own read in
    subst (λ (files : List File). read_index held folder grid.head.order column n ≡ (Ok (Some (built_anew grid c column index)), n + bytes_in files))
    (sym b.are) again

index_again : BuiltIsRead → (held : Files) (folder : List ℕ) (table : FeatureTable) (c : ℕ) (column : Col) (index : Option Index) (n : ℕ) (made : List File)
    → IsGrid table.grid
    → slice_get table.grid.head.columns c ≡ Some column → IsNamedOption (file_of column) index → AgreesOption table.grid c index
    → LacksIndex held folder column index
    → index_made folder table c (Some column) index ≡ Ok made → AreFit held made n
    → read_index held folder table.grid.head.order column n ≡ (Ok (rebuilt_index table.grid c (Some column) index), n + bytes_in made)
index_again built held folder table c column None n made is at named agree lacks e fit =
    counted_so (read_index held folder table.grid.head.order column n) None n (n + bytes_in made)
    (absent_again held folder table.grid.head.order (file_of column) n lacks) (no_files made n e)
index_again built held folder table c column (Some index) n made is at named agree lacks e fit =
    there_again built held folder table c column index n made is at named agree e fit

-- ---- those of all columns

-- each index agrees with its column, from the one at this position on
abbrev pub AgreeFrom : Grid → ℕ → List (Option Index) → Type 0
AgreeFrom grid c [] = Unit {0}
AgreeFrom grid c (index ∷ indexes) = AgreesOption grid c index × AgreeFrom grid (suc c) indexes

agree_here : (grid : Grid) (c : ℕ) (first : Option Index) (indexes : List (Option Index))
    → ((k i : ℕ) (index : Index) → i ≡ c + k → slice_get (first ∷ indexes) k ≡ Some (Some index) → AgreesAt index.theme grid i) → AgreesOption grid c first
agree_here grid c None indexes h = tt
agree_here grid c (Some index) indexes h = h 0 c index (omega arith) refl

pub agree_from : (grid : Grid) (c : ℕ) (indexes : List (Option Index))
    → ((k i : ℕ) (index : Index) → i ≡ c + k → slice_get indexes k ≡ Some (Some index) → AgreesAt index.theme grid i) → AgreeFrom grid c indexes
agree_from grid c [] h = tt
agree_from grid c (first ∷ indexes) h =
    (agree_here grid c first indexes h, agree_from grid (suc c) indexes (λ k i index same at. h (suc k) i index (omega (arith, same)) at))

-- the columns from a position on begin with the one there
column_here : (columns rest : List Col) (c : ℕ) (column : Col) → drop c columns ≡ column ∷ rest → slice_get columns c ≡ Some column
column_here [] rest zero column e = absurd (cc e)
column_here [] rest (suc c) column e = absurd (cc e)
column_here (first ∷ columns) rest zero column e = let same : first ≡ column = cc e in ap Some same
column_here (first ∷ columns) rest (suc c) column e = column_here columns rest c column e

columns_behind : (columns rest : List Col) (c : ℕ) (column : Col) → drop c columns ≡ column ∷ rest → drop (suc c) columns ≡ rest
columns_behind [] rest zero column e = absurd (cc e)
columns_behind [] rest (suc c) column e = absurd (cc e)
columns_behind (first ∷ columns) rest zero column e = cc e
columns_behind (first ∷ columns) rest (suc c) column e = columns_behind columns rest c column e

lacks_here : (held : Files) (folder : List ℕ) (column : Col) (columns : List Col) (index : Option Index) (indexes : List (Option Index))
    → LacksIndexes held folder (column ∷ columns) (index ∷ indexes) → LacksIndex held folder column index × LacksIndexes held folder columns indexes
lacks_here held folder column columns None indexes h = (h.0, h.1)
lacks_here held folder column columns (Some index) indexes h = (tt, h)

both_again : (held : Files) (folder : List ℕ) (order : Order) (column : Col) (columns : List Col) (index : Option Index) (indexes : List (Option Index))
    (n m k : ℕ)
    → read_index held folder order column n ≡ (Ok index, m) → read_indexes held folder order columns m ≡ (Ok indexes, k)
    → read_indexes held folder order (column ∷ columns) n ≡ (Ok (index ∷ indexes), k)
both_again held folder order column columns index indexes n m k e f = rw (e, f) refl

pub indexes_again : BuiltIsRead
    → (held : Files) (folder : List ℕ) (table : FeatureTable) (c : ℕ) (columns : List Col) (indexes : List (Option Index)) (n : ℕ) (made : List File)
    → IsGrid table.grid → drop c table.grid.head.columns ≡ columns → AreNamed columns indexes → AgreeFrom table.grid c indexes
    → LacksIndexes held folder columns indexes
    → indexes_made folder table c indexes ≡ Ok made → AreFit held made n
    → read_indexes held folder table.grid.head.order columns n ≡ (Ok (rebuilt_indexes table.grid c indexes), n + bytes_in made)
indexes_again built held folder table c [] [] n made is at named agree lacks e fit =
    counted_so (read_indexes held folder table.grid.head.order [] n) [] n (n + bytes_in made) refl (no_files made n e)
indexes_again built held folder table c [] (index ∷ indexes) n made is at named agree lacks e fit = absurd named
indexes_again built held folder table c (column ∷ columns) [] n made is at named agree lacks e fit = absurd named
indexes_again built held folder table c (column ∷ columns) (index ∷ indexes) n made is at named agree lacks e fit =
    let grid = table.grid in
    let here = column_here grid.head.columns columns c column at in
    let lack = lacks_here held folder column columns index indexes lacks in
    let p = parts_are held (index_made folder table c (slice_get grid.head.columns c) index) (indexes_made folder table (suc c) indexes) made n e fit in
    let own : index_made folder table c (Some column) index ≡ Ok p.front =
    ap (λ (x : Option Col). index_made folder table c x index) (sym here) ∙ p.front_made in
    let first = index_again built held folder table c column index n p.front is here named.0 agree.0 lack.0 own p.front_fit in
    let rest = indexes_again built held folder table (suc c) columns indexes (n + bytes_in p.front) p.rest is
    (columns_behind grid.head.columns columns c column at) named.1 agree.1
    lack.1 p.rest_made p.rest_fit in
    let anew = rebuilt_index grid c (Some column) index in
    let others = rebuilt_indexes grid (suc c) indexes in
    let both = both_again held folder grid.head.order column columns anew others n (n + bytes_in p.front) (n + bytes_in p.front + bytes_in p.rest) first rest in
    let all = counted_so (read_indexes held folder grid.head.order (column ∷ columns) n) (anew ∷ others) (n + bytes_in p.front + bytes_in p.rest)
    (n + bytes_in made) both p.sum in
    subst (λ (x : Option Col). read_indexes held folder grid.head.order (column ∷ columns) n ≡ (Ok (rebuilt_index grid c x index ∷ others), n + bytes_in made))
    (sym here) all
