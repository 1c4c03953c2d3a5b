-- `show`: the header and the rows of a table.
use Rattle.std.specs.Prelude.{ℕ, suc, List, [], ◌∷◌, length, Option, Some, None, codes}
use Rattle.std.specs.Fmt.{decimal}
use Rattle.vpf_base.specs.Numbers.{order_text}
use Rattle.vpf_triplet.specs.Kinds.{kind_text, count_text}
use Rattle.vpf_head.specs.Head.{Head, Col}
use Rattle.vpf_head.specs.Fields.{key_text}
use Rattle.vpf_source.specs.Files.{Files}
use Rattle.vpf_table.specs.Grid.{Row, Grid}
use Rattle.vpf_table.specs.Reading.{table_of}
use Rattle.vpf_findings.specs.Text.Texts.{◌&◌}
use Rattle.vpf_findings.specs.Text.Bytes.{printed}
use Rattle.vpf_findings.specs.Text.Cells.{cell_text}
use Rattle.vpf_replies.specs.Answer.{Answer, done}
use Rattle.vpf_replies.specs.Found.{on_required_file}
use Rattle.vpf_replies.specs.Tables.{on_table}
use Rattle.vpf_table_commands.specs.Words.{one_file}
use Rattle.vpf_table_commands.specs.declared.showing.ShowRequest.{ShowRequest}

-- the request of a file
abbrev pub show_request_of : Option (List ℕ) → Option ShowRequest
show_request_of None = None
show_request_of (Some file) = Some (record { file = file })

-- the request that the words after the verb spell
abbrev pub show_request : List (List ℕ) → Option ShowRequest
show_request words = show_request_of (one_file words)

-- a name that may be absent
abbrev pub optional_name_text : Option (List ℕ) → List ℕ
optional_name_text None = codes "-"
optional_name_text (Some name) = printed name

-- the lines of the table itself
abbrev pub order_line : Head → List ℕ
order_line h = codes "order " & order_text h.order & codes "\n"

abbrev pub description_line : List ℕ → List ℕ
description_line description = codes "description " & printed description & codes "\n"

abbrev pub narrative_line : Head → List ℕ
narrative_line h = codes "narrative " & optional_name_text h.narrative & codes "\n"

-- the number of rows
abbrev pub rows_line : Grid → List ℕ
rows_line g = codes "rows " & decimal (length g.rows) & codes "\n"

-- what a column is
abbrev pub type_text : Col → List ℕ
type_text c = kind_text c.kind & codes "," & count_text c.count & codes " " & key_text c.key

-- the files that a column refers to
abbrev pub files_text : Col → List ℕ
files_text c = optional_name_text c.values & codes " " & optional_name_text c.theme & codes " " & optional_name_text c.narrative

-- what a column is, the files that it refers to, and its description
abbrev pub definition_text : Col → List ℕ
definition_text c = type_text c & codes " " & files_text c & codes " " & printed c.description

-- the line of column `number`, counted from 1
abbrev pub column_line : ℕ → Col → List ℕ
column_line number c = codes "column " & decimal number & codes " " & printed c.name & codes " " & definition_text c & codes "\n"

-- the lines of columns after so many
abbrev pub column_lines : ℕ → List Col → List ℕ
column_lines before [] = []
column_lines before (c ∷ cs) = column_line (suc before) c & column_lines (suc before) cs

-- the cells of a row, each behind a bar
abbrev pub cells_text : List Col → Row → List ℕ
cells_text [] row = []
cells_text (c ∷ cs) [] = []
cells_text (c ∷ cs) (v ∷ vs) = codes " | " & cell_text c.kind v & cells_text cs vs

-- the line of row `number`, counted from 1
abbrev pub row_line : List Col → ℕ → Row → List ℕ
row_line cs number row = decimal number & cells_text cs row & codes "\n"

-- the lines of rows after so many
abbrev pub row_lines : List Col → ℕ → List Row → List ℕ
row_lines cs before [] = []
row_lines cs before (row ∷ rows) = row_line cs (suc before) row & row_lines cs (suc before) rows

-- all lines of a table
abbrev pub show_text : Grid → List ℕ
show_text g = order_line g.head & description_line g.head.description & narrative_line g.head & column_lines 0 g.head.columns & rows_line g & row_lines g.head.columns 0 g.rows

-- the answer over the bytes of a file
abbrev pub show_bytes_answer : List ℕ → List ℕ → Answer
show_bytes_answer name bytes = on_table (λ g. done (show_text g)) name (table_of bytes)

-- the answer over the files of a tree
abbrev pub show_answer : Files → ShowRequest → Answer
show_answer files request = on_required_file (show_bytes_answer request.file) request.file files
