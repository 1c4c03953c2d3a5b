-- The features of a class that have a value in a column, with the primitives that are joined to each; or why there are none (MIL-STD-2407, 5.2.3,
-- feature classes).
use Rattle.std.specs.Prelude.{ℕ, List, [], ◌∷◌, filter, length, Option, Some, None, option_and_then, slice_get, Result, Ok, Err}
use Rattle.std.specs.Option.{option_map}
use Rattle.vpf_triplet.specs.declared.kinds.Kind.{Kind}
use Rattle.vpf_value.specs.Values.{Value}
use Rattle.vpf_head.specs.Head.{Col, place_of}
use Rattle.vpf_table.specs.Grid.{Grid}
use Rattle.vpf_theme.specs.Agreeing.{scan_of}
use Rattle.vpf_theme.specs.Findings.{cell_of, cells_of, fits_line}
use Rattle.vpf_select.specs.Selecting.{selected}
use Rattle.vpf_select.specs.Words.{value_in}
use Rattle.vpf_prims.specs.Coverages.{CoverageTables}
use Rattle.vpf_feature_files.specs.SchemaRows.Items.{name_in, same_item}
use Rattle.vpf_feature_files.specs.SchemaRows.Joins.{SchemaJoin, has_class, is_join}
use Rattle.vpf_feature_files.specs.Schemas.{FeatureTable, Index, Schema, joins_of, table_called}
use Rattle.vpf_joins.specs.Features.{FeatureJoined, features_in}
use Rattle.vpf_feature_commands.specs.Classes.Keys.{first_absent}
use Rattle.vpf_feature_commands.specs.Classes.Lacks.{Lack, ClassLacks, TableLacks, ColumnLacks, IndexUnfit, ValueLacks, IndexWrong}

-- ---- the rows of the class

-- the rows whose first table is that of the first of them; rows of other tables are passed over
abbrev pub of_first_table : List SchemaJoin → List SchemaJoin
of_first_table [] = []
of_first_table (r ∷ rs) = filter (λ (other : SchemaJoin). same_item other.table1 r.table1) (r ∷ rs)

-- the rows that join the feature table of the class to primitives, by those that join any to them
abbrev pub unless_no_join : List SchemaJoin → Result (List SchemaJoin) Lack
unless_no_join [] = Err TableLacks
unless_no_join (r ∷ rs) = Ok (of_first_table (r ∷ rs))

-- .. by the rows of the class
abbrev pub unless_no_class : List SchemaJoin → Result (List SchemaJoin) Lack
unless_no_class [] = Err ClassLacks
unless_no_class (r ∷ rs) = unless_no_join (filter is_join (r ∷ rs))

-- the rows of the schema table that join the feature table of a class to primitives
abbrev pub class_joins : Schema → (class : List ℕ) → Result (List SchemaJoin) Lack
class_joins S class = unless_no_class (filter (has_class class) (joins_of S.fcs))

-- the feature table that they join, if it is there
abbrev pub joined_table : Schema → List SchemaJoin → Option FeatureTable
joined_table S [] = None
joined_table S (r ∷ rs) = table_called S r.table1

-- ---- the rows that have the value

-- the thematic index of the column at a position, if one is there
abbrev pub index_of_column : FeatureTable → ℕ → Option Index
index_of_column F c = option_and_then (λ index. index) (slice_get F.indexes c)

-- where an index isn't one of the column
abbrev pub unfit : Col → (rows : ℕ) → Option Index → Option Lack
unfit column rows None = None
unfit column rows (Some index) = option_map (IndexUnfit index.file) (fits_line index.theme column rows)

-- the rows that an index lists, or the one that it lists for a value which its cell isn't
abbrev pub unless_wrong : Index → Kind → List Value → Value → Result (List ℕ) ℕ → Result (List ℕ) Lack
unless_wrong index kind cells value (Ok rows) = Ok rows
unless_wrong index kind cells value (Err row) = Err (IndexWrong index.file kind row (cell_of cells row) value)

-- the rows of a value: those that the index lists, where there is one, and else those that a plain scan finds
abbrev pub rows_of_value : Option Index → Kind → List Value → Value → Result (List ℕ) Lack
rows_of_value None kind cells value = Ok (scan_of value cells)
rows_of_value (Some index) kind cells value = unless_wrong index kind cells value (selected (Some index.theme) value cells)

-- .. of the value that a word says, if it says one
abbrev pub unless_bad : Option Index → Kind → List Value → Option Value → Result (List ℕ) Lack
unless_bad index kind cells None = Err ValueLacks
unless_bad index kind cells (Some value) = rows_of_value index kind cells value

-- the same, unless something lacks
abbrev pub unless_lacks : {A : Type 0} → Result A Lack → Option Lack → Result A Lack
unless_lacks answer None = answer
unless_lacks answer (Some lack) = Err lack

-- the rows of a table that have the value of a word in the column at a position, by its index where there is one
abbrev pub rows_of_word : Option Index → Grid → ℕ → Col → (word : List ℕ) → Result (List ℕ) Lack
rows_of_word index grid c column word =
    unless_lacks (unless_bad index column.kind (cells_of grid c) (value_in column.kind column.count word)) (unfit column (length grid.rows) index)

-- .. of a feature table, by the index that it has for the column
abbrev pub rows_asked : FeatureTable → ℕ → Col → (word : List ℕ) → Result (List ℕ) Lack
rows_asked F c column word = rows_of_word (index_of_column F c) F.grid c column word

-- ---- the answer

-- the features in rows, or why there are no rows
abbrev pub features_of_rows : CoverageTables → List SchemaJoin → Grid → Result (List ℕ) Lack → Result (List FeatureJoined) Lack
features_of_rows c joins grid (Ok rows) = Ok (features_in c joins grid rows)
features_of_rows c joins grid (Err lack) = Err lack

-- .. unless a key column isn't there, whose name is told as it is read
abbrev pub unless_absent : Result (List FeatureJoined) Lack → Option (List ℕ) → Result (List FeatureJoined) Lack
unless_absent answer None = answer
unless_absent answer (Some key) = Err (ColumnLacks (name_in key))

-- the answer by the column at a position
abbrev pub by_column : CoverageTables → List SchemaJoin → FeatureTable → (name word : List ℕ) → ℕ → Option Col → Result (List FeatureJoined) Lack
by_column c joins F name word place None = Err (ColumnLacks name)
by_column c joins F name word place (Some column) =
    unless_absent (features_of_rows c joins F.grid (rows_asked F place column word)) (first_absent c F.grid.head.columns joins)

-- .. by the position of the column of a name, if it has one
abbrev pub by_place : CoverageTables → List SchemaJoin → FeatureTable → (name word : List ℕ) → Option ℕ → Result (List FeatureJoined) Lack
by_place c joins F name word None = Err (ColumnLacks name)
by_place c joins F name word (Some place) = by_column c joins F name word place (slice_get F.grid.head.columns place)

-- .. by the feature table, if it is there
abbrev pub by_table : CoverageTables → List SchemaJoin → (name word : List ℕ) → Option FeatureTable → Result (List FeatureJoined) Lack
by_table c joins name word None = Err TableLacks
by_table c joins name word (Some F) = by_place c joins F name word (place_of name F.grid.head.columns)

-- .. by the rows of the schema table
abbrev pub by_joins : CoverageTables → Schema → (name word : List ℕ) → Result (List SchemaJoin) Lack → Result (List FeatureJoined) Lack
by_joins c S name word (Err lack) = Err lack
by_joins c S name word (Ok joins) = by_table c joins name word (joined_table S joins)

-- the features of a class that have the value of a word in the column of a name, or why there are none
abbrev pub features_asked : CoverageTables → Schema → (class name word : List ℕ) → Result (List FeatureJoined) Lack
features_asked c S class name word = by_joins c S name word (class_joins S class)
