-- `rows`: the rows that have a value, by the files of a tree: the table, its variable-length index where rows vary, and the thematic
-- index of the column.
use Rattle.std.specs.Prelude.{◌≡◌, ℕ, ◌<◌, List, [], ◌∷◌, length, slice_get, Option, None, Some, option_and_then, Result, Ok, Err, codes, if◌then◌else◌}
use Rattle.std.specs.List.{flat_map}
use Rattle.std.specs.Fmt.{decimal}
use Rattle.vpf_base.specs.Limits.{most_bytes}
use Rattle.vpf_source.specs.Files.{Files}
use Rattle.vpf_source.specs.Loading.{load_answer}
use Rattle.vpf_triplet.specs.declared.kinds.Kind.{Kind}
use Rattle.vpf_triplet.specs.declared.places.Place.{Place}
use Rattle.vpf_value.specs.Values.{Value}
use Rattle.vpf_head.specs.Head.{Col, place_of, varies_in}
use Rattle.vpf_findings.specs.Findings.{Disagreement}
use Rattle.vpf_findings.specs.Printing.{disagree_text}
use Rattle.vpf_table.specs.Grid.{Grid}
use Rattle.vpf_table.specs.Opening.{opened_of}
use Rattle.vpf_theme.specs.Agreeing.{AgreesAt, ServesColumn, scan_of}
use Rattle.vpf_theme.specs.Entries.{Theme}
use Rattle.vpf_theme.specs.Findings.{cell_of, cells_of, fits_line}
use Rattle.vpf_theme.specs.Reading.{theme_of}
use Rattle.vpf_select.specs.Selecting.{selected}
use Rattle.vpf_select.specs.Words.{value_in}
use Rattle.vpf_findings.specs.Text.Texts.{◌&◌}
use Rattle.vpf_source.specs.Names.Indexes.{index_name}
use Rattle.vpf_source.specs.Names.Items.{file_beside}
use Rattle.vpf_source.specs.Names.Naming.{file_name}
use Rattle.vpf_replies.specs.Answer.{Answer, done, refused}
use Rattle.vpf_replies.specs.Columns.{on_column}
use Rattle.vpf_replies.specs.Found.{on_optional_file, on_required_file}
use Rattle.vpf_replies.specs.Refusals.{OtherValue, refusal_answer}
use Rattle.vpf_replies.specs.Selecting.{wrong_row_text}
use Rattle.vpf_replies.specs.Tables.{fault_answer, on_table}
use Rattle.vpf_table_commands.specs.declared.selecting.RowsRequest.{RowsRequest}

-- the request of a file, a column and a value
abbrev pub rows_request_of : Option (List ℕ) → List ℕ → List ℕ → Option RowsRequest
rows_request_of None column value = None
rows_request_of (Some file) column value = Some (record { file = file; column = column; value = value })

-- the request that the words after the verb spell
abbrev pub rows_request : List (List ℕ) → Option RowsRequest
rows_request (file ∷ column ∷ value ∷ []) = rows_request_of (file_name file) column value
rows_request words = None

-- the line of a row that is found
abbrev pub found_line : ℕ → List ℕ
found_line row = decimal row & codes "\n"

-- a line for each row, and how many there are
abbrev pub found_text : List ℕ → List ℕ
found_text rows = flat_map found_line rows & codes "found " & decimal (length rows) & codes "\n"

-- what is answered over the value that the word has in the column, or that it has none
abbrev pub on_value : (Value → Answer) → RowsRequest → Option Value → Answer
on_value over request None = refusal_answer (OtherValue request.column)
on_value over request (Some value) = over value

-- the answer by a plain scan
abbrev pub scan_answer : RowsRequest → Grid → ℕ → Col → Answer
scan_answer request g c column = on_value (λ value. done (found_text (scan_of value (cells_of g c)))) request (value_in column.kind column.count request.value)

-- the rows that an index lists, or the first of them whose cell is another
abbrev pub on_selected : List ℕ → Kind → List Value → Value → Result (List ℕ) ℕ → Answer
on_selected name kind cells value (Ok rows) = done (found_text rows)
on_selected name kind cells value (Err row) = refused (wrong_row_text name kind row (cell_of cells row) value)

-- the answer by an index of the column
abbrev pub listed_answer : RowsRequest → Grid → ℕ → Col → List ℕ → Theme → Answer
listed_answer request g c column name t = on_value (λ value. on_selected name column.kind (cells_of g c) value (selected (Some t) value (cells_of g c))) request (value_in column.kind column.count request.value)

-- the answer by an index, unless it isn't one of the column
abbrev pub unless_finding : List ℕ → Answer → Option Disagreement → Answer
unless_finding name answer None = answer
unless_finding name answer (Some finding) = refused (disagree_text name finding)

abbrev pub fitting_answer : RowsRequest → Grid → ℕ → Col → List ℕ → Theme → Answer
fitting_answer request g c column name t = unless_finding name (listed_answer request g c column name t) (fits_line t column (length g.rows))

-- the answer where a file is this index, or has this first fault
abbrev pub on_theme : (Theme → Answer) → List ℕ → Result Theme Place → Answer
on_theme over name (Ok t) = over t
on_theme over name (Err place) = fault_answer name place

-- the answer by the index in the bytes of a file
abbrev pub theme_answer : RowsRequest → Grid → ℕ → Col → List ℕ → List ℕ → Answer
theme_answer request g c column name bytes = on_theme (fitting_answer request g c column name) name (theme_of g.head.order bytes)

-- the thematic index that a column names, in the folder of the table's file
abbrev pub theme_file : RowsRequest → Col → Option (List ℕ)
theme_file request column = option_and_then (file_beside request.file) column.theme

-- the answer over a column: by the index of this name where it is there, and else by a plain scan
abbrev pub by_theme : Files → RowsRequest → Grid → ℕ → Col → Option (List ℕ) → Answer
by_theme files request g c column None = scan_answer request g c column
by_theme files request g c column (Some name) = on_optional_file (theme_answer request g c column name) (scan_answer request g c column) name files

abbrev pub column_answer : Files → RowsRequest → Grid → ℕ → Col → Answer
column_answer files request g c column = by_theme files request g c column (theme_file request column)

-- what is answered over a column of a table
abbrev pub OverColumn : Type 0
OverColumn = Grid → ℕ → Col → Answer

-- the answer over a table
abbrev pub grid_rows_answer : OverColumn → RowsRequest → Grid → Answer
grid_rows_answer over request g = on_column (over g) request.column g.head.columns

-- the answer where the variable-length index of the table is there
abbrev pub with_index : OverColumn → RowsRequest → List ℕ → List ℕ → Answer
with_index over request bytes index = on_table (grid_rows_answer over request) (index_name request.file) (opened_of bytes (Some index))

-- the answer over a table whose rows vary: its index is read where it is there
abbrev pub varying_answer : OverColumn → Files → RowsRequest → List ℕ → Grid → Answer
varying_answer over files request bytes g = on_optional_file (with_index over request bytes) (grid_rows_answer over request g) (index_name request.file) files

abbrev pub table_rows_answer : OverColumn → Files → RowsRequest → List ℕ → Grid → Answer
table_rows_answer over files request bytes g = if varies_in g.head.columns then varying_answer over files request bytes g else grid_rows_answer over request g

-- the answer over the bytes of the table's file
abbrev pub rows_answer_over : OverColumn → Files → RowsRequest → List ℕ → Answer
rows_answer_over over files request bytes = on_table (table_rows_answer over files request bytes) request.file (opened_of bytes None)

-- .. where the column's index serves
abbrev pub rows_bytes_answer : Files → RowsRequest → List ℕ → Answer
rows_bytes_answer files request bytes = rows_answer_over (column_answer files request) files request bytes

-- .. and by a plain scan alone
abbrev pub plain_bytes_answer : Files → RowsRequest → List ℕ → Answer
plain_bytes_answer files request bytes = rows_answer_over (scan_answer request) files request bytes

-- the answer over the files of a tree
abbrev pub rows_answer : Files → RowsRequest → Answer
rows_answer files request = on_required_file (rows_bytes_answer files request) request.file files

-- .. and where no thematic index serves
abbrev pub plain_rows_answer : Files → RowsRequest → Answer
plain_rows_answer files request = on_required_file (plain_bytes_answer files request) request.file files

-- by an index that agrees with the column the same is answered as by a plain scan of it
abbrev pub IndexAnswersAsTheScan : Type 0
IndexAnswersAsTheScan = (request : RowsRequest) (g : Grid) (c : ℕ) (column : Col) (name : List ℕ) (t : Theme) → c < length g.head.columns → slice_get g.head.columns c ≡ Some column → AgreesAt t g c
    → fitting_answer request g c column name t ≡ scan_answer request g c column

-- a file that is loaded so is a thematic index that agrees with the column at this position; an absent one is none
abbrev pub AgreesIfThere : Grid → ℕ → Result (Option (List ℕ)) ℕ → Type 0
AgreesIfThere g c (Ok (Some bytes)) = ServesColumn g c bytes
AgreesIfThere g c (Ok None) = Unit {0}
AgreesIfThere g c (Err size) = ⊥

-- the same of a file that is named, if any
abbrev pub NamedAgrees : Files → Grid → ℕ → Option (List ℕ) → Type 0
NamedAgrees files g c None = Unit {0}
NamedAgrees files g c (Some name) = AgreesIfThere g c (load_answer (files name) most_bytes)

-- the index of the column that is asked for agrees with it
abbrev pub IndexAgrees : Files → RowsRequest → Type 0
IndexAgrees files request = (bytes : List ℕ) (index : Option (List ℕ)) (g : Grid) (c : ℕ) (column : Col) → load_answer (files request.file) most_bytes ≡ Ok (Some bytes) → opened_of bytes index ≡ Ok g
    → place_of request.column g.head.columns ≡ Some c → slice_get g.head.columns c ≡ Some column → NamedAgrees files g c (theme_file request column)

-- where the index agrees, the answer is that by a plain scan
abbrev pub PlainRows : Type 0
PlainRows = (files : Files) (request : RowsRequest) → IndexAgrees files request → plain_rows_answer files request ≡ rows_answer files request
