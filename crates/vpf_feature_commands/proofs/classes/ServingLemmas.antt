-- What is asked for is the same without indexes, where the one that is asked for agrees.
use Rattle.std.proofs.Common.{◌≡◌, ◌∙◌, ℕ, Bool, true, false, cond, List, [], ◌∷◌, length, map, Option, Some, None, option_map, refl, sym, ap}
use Rattle.std.specs.Prelude.{Ok, Err, Result, slice_get, IfSome, bytes_eq}
use Rattle.std.specs.Option.{option_or}
use Rattle.std.proofs.lemmas.List.{length-map}
use Rattle.vpf_value.specs.Values.{Value}
use Rattle.vpf_head.specs.Head.{Col, place_of}
use Rattle.vpf_findings.specs.Findings.{Disagreement}
use Rattle.vpf_prims.specs.Coverages.{CoverageTables}
use Rattle.vpf_theme.specs.Entries.{Theme}
use Rattle.vpf_theme.specs.Agreeing.{AgreesAt, AgreesWithColumn, scan_of}
use Rattle.vpf_theme.specs.Findings.{cells_of, fits_line, first_finding}
use Rattle.vpf_select.specs.Selecting.{selected}
use Rattle.vpf_select.specs.Words.{value_in}
use Rattle.vpf_feature_files.specs.SchemaRows.Items.{own_file}
use Rattle.vpf_feature_files.specs.SchemaRows.Joins.{SchemaJoin}
use Rattle.vpf_feature_files.specs.Schemas.{FeatureTable, Index, Schema, table_called, table_in_file}
use Rattle.vpf_feature_commands.specs.Classes.Asking.{by_column, by_joins, by_place, by_table, class_joins, features_of_rows, index_of_column, joined_table, rows_of_word, unless_absent, unless_bad, unless_lacks, unless_wrong}
use Rattle.vpf_feature_commands.specs.Classes.Keys.{first_absent}
use Rattle.vpf_feature_commands.specs.Classes.Lacks.{Lack, IndexUnfit}
use Rattle.vpf_feature_commands.specs.Classes.Serving.{AskedIndexServes, HasGoodIndex, unindexed_schema, unindexed_table}

-- what an index selects, and that nothing is found on it, where it agrees
abbrev pub SelectsScan : Type 0
SelectsScan = (t : Theme) (column : Col) (cells : List Value) (v : Value) → AgreesWithColumn t column cells → selected (Some t) v cells ≡ Ok (scan_of v cells)

abbrev pub NoFinding : Type 0
NoFinding = (t : Theme) (column : Col) (cells : List Value) → AgreesWithColumn t column cells → first_finding t column cells ≡ None

-- ---- the rows

first_none : {A : Type 0} (a b : Option A) → option_or a b ≡ None → a ≡ None
first_none None b h = refl
first_none (Some x) b h = absurd (cc h)

fits : NoFinding → (t : Theme) (column : Col) (cells : List Value) → AgreesWithColumn t column cells → fits_line t column (length cells) ≡ None
unfolding first_finding
fits none t column cells agrees = first_none (fits_line t column (length cells)) _ (none t column cells agrees)

listed_same : SelectsScan → (i : Index) (column : Col) (cells : List Value) (value : Option Value) → AgreesWithColumn i.theme column cells
    → unless_bad (Some i) column.kind cells value ≡ unless_bad None column.kind cells value
listed_same scans i column cells None agrees = refl
listed_same scans i column cells (Some v) agrees = ap (unless_wrong i column.kind cells v) (scans i.theme column cells v agrees)

rows_same : SelectsScan → NoFinding → (F : FeatureTable) (c : ℕ) (column : Col) (word : List ℕ) (index : Option Index) → slice_get F.grid.head.columns c ≡ Some column
    → IfSome index (λ (i : Index). AgreesAt i.theme F.grid c) → rows_of_word index F.grid c column word ≡ rows_of_word None F.grid c column word
rows_same scans none F c column word None at agrees = refl
rows_same scans none F c column word (Some i) at agrees =
    let cells = cells_of F.grid c in
    let right = agrees column at in
    let as_long : length cells ≡ length F.grid.rows = length-map F.grid.rows _ in
    let fit : fits_line i.theme column (length F.grid.rows) ≡ None = ap (fits_line i.theme column) (sym as_long) ∙ fits none i.theme column cells right in
    ap (λ (d : Option Disagreement). unless_lacks (unless_bad (Some i) column.kind cells (value_in column.kind column.count word)) (option_map (IndexUnfit i.file) d)) fit
    ∙ listed_same scans i column cells (value_in column.kind column.count word) right

-- ---- the features

column_same : SelectsScan → NoFinding → (c : CoverageTables) (joins : List SchemaJoin) (F : FeatureTable) (name word : List ℕ) (p : ℕ) (column : Option Col)
    → slice_get F.grid.head.columns p ≡ column → HasGoodIndex F p → by_column c joins F name word p column ≡ by_column c joins (unindexed_table F) name word p column
column_same scans none c joins F name word p None at good = refl
column_same scans none c joins F name word p (Some column) at good =
    ap (λ (rows : Result (List ℕ) Lack). unless_absent (features_of_rows c joins F.grid rows) (first_absent c F.grid.head.columns joins))
    (rows_same scans none F p column word (index_of_column F p) at good)

place_same : SelectsScan → NoFinding → (c : CoverageTables) (joins : List SchemaJoin) (F : FeatureTable) (name word : List ℕ) (place : Option ℕ)
    → ((p : ℕ) → place ≡ Some p → HasGoodIndex F p) → by_place c joins F name word place ≡ by_place c joins (unindexed_table F) name word place
place_same scans none c joins F name word None good = refl
place_same scans none c joins F name word (Some p) good = column_same scans none c joins F name word p (slice_get F.grid.head.columns p) refl (good p refl)

-- the index that a table has for the column of a name agrees
abbrev HasGoodColumn : List ℕ → FeatureTable → Type 0
HasGoodColumn name F = (p : ℕ) → place_of name F.grid.head.columns ≡ Some p → HasGoodIndex F p

table_same : SelectsScan → NoFinding → (c : CoverageTables) (joins : List SchemaJoin) (name word : List ℕ) (table : Option FeatureTable)
    → ((F : FeatureTable) → table ≡ Some F → HasGoodColumn name F) → by_table c joins name word table ≡ by_table c joins name word (option_map unindexed_table table)
table_same scans none c joins name word None good = refl
table_same scans none c joins name word (Some F) good = place_same scans none c joins F name word (place_of name F.grid.head.columns) (good F refl)

-- ---- the feature table

find_here : (is : Bool) (F : FeatureTable) (rest : Option FeatureTable) (plain : Option FeatureTable) → plain ≡ option_map unindexed_table rest
    → cond is (Some (unindexed_table F)) plain ≡ option_map unindexed_table (cond is (Some F) rest)
find_here true F rest plain e = refl
find_here false F rest plain e = e

in_file : (tables : List FeatureTable) (name : List ℕ) → table_in_file (map unindexed_table tables) name ≡ option_map unindexed_table (table_in_file tables name)
in_file [] name = refl
in_file (F ∷ tables) name = find_here (bytes_eq F.name name) F (table_in_file tables name) (table_in_file (map unindexed_table tables) name) (in_file tables name)

-- the table that is called so without its indexes is the one that is called so
named : (S : Schema) (file : Option (List ℕ)) (item : List ℕ) → own_file item ≡ file → table_called (unindexed_schema S) item ≡ option_map unindexed_table (table_called S item)
named S None item e = rw e refl
named S (Some name) item e = rw e (in_file S.tables name)

called : (S : Schema) (joins : List SchemaJoin) → joined_table (unindexed_schema S) joins ≡ option_map unindexed_table (joined_table S joins)
called S [] = refl
called S (r ∷ rs) = named S (own_file r.table1) r.table1 refl

joins_same : SelectsScan → NoFinding → (c : CoverageTables) (S : Schema) (name word : List ℕ) (joins : Result (List SchemaJoin) Lack)
    → ((rows : List SchemaJoin) (F : FeatureTable) → joins ≡ Ok rows → joined_table S rows ≡ Some F → HasGoodColumn name F)
    → by_joins c S name word joins ≡ by_joins c (unindexed_schema S) name word joins
joins_same scans none c S name word (Err lack) good = refl
joins_same scans none c S name word (Ok joins) good =
    table_same scans none c joins name word (joined_table S joins) (λ F is. good joins F refl is) ∙ sym (ap (by_table c joins name word) (called S joins))

pub asked_same : SelectsScan → NoFinding → (c : CoverageTables) (S : Schema) (class name word : List ℕ) → AskedIndexServes S class name
    → by_joins c S name word (class_joins S class) ≡ by_joins c (unindexed_schema S) name word (class_joins S class)
asked_same scans none c S class name word serve =
    joins_same scans none c S name word (class_joins S class) (λ joins F rows table p place. serve joins F p rows table place)
