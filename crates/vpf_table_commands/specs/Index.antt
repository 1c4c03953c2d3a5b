-- `index`: a thematic index of a column.
use Rattle.std.specs.Prelude.{◌≡◌, ℕ, ◌≤◌, false, List, [], ◌∷◌, length, slice_get, Option, None, Some, Result, Ok, Err, codes, if◌then◌else◌}
use Rattle.std.specs.Str.{bytes_eq}
use Rattle.vpf_base.specs.Bytes.{IsBytes}
use Rattle.vpf_base.specs.Limits.{most_bytes}
use Rattle.vpf_source.specs.Files.{Files}
use Rattle.vpf_head.specs.Head.{Col, place_of}
use Rattle.vpf_table.specs.Grid.{Grid}
use Rattle.vpf_table.specs.Reading.{table_of}
use Rattle.vpf_theme.specs.declared.layout.Form.{Form}
use Rattle.vpf_theme.specs.declared.layout.Form.TheVariants as forms
use Rattle.vpf_theme.specs.Agreeing.{ServesColumn}
use Rattle.vpf_theme.specs.Findings.{cells_of}
use Rattle.vpf_theme_build.specs.declared.errors.BuildError.{BuildError}
use Rattle.vpf_theme_build.specs.declared.errors.BuildError.TheVariants as errors
use Rattle.vpf_theme_build.specs.Building.{built_by}
use Rattle.vpf_source.specs.Names.Folders.{last_part}
use Rattle.vpf_source.specs.Names.Naming.{file_name}
use Rattle.vpf_table_commands.specs.declared.indexing.IndexRequest.{IndexRequest}
use Rattle.vpf_replies.specs.declared.verdict.Verdict.TheVariants.{Done}
use Rattle.vpf_replies.specs.Answer.{Answer, limited}
use Rattle.vpf_replies.specs.Columns.{on_column}
use Rattle.vpf_replies.specs.Found.{on_required_file}
use Rattle.vpf_replies.specs.Making.{made_answer}
use Rattle.vpf_replies.specs.Refusals.{PlainColumn, refusal_answer}
use Rattle.vpf_replies.specs.Tables.{on_table}
use Rattle.vpf_replies.specs.Texts.{limit_text}

-- the form of a thematic index that a word names
abbrev pub form_named : List ℕ → Option Form
form_named kind = if bytes_eq kind (codes "list") then Some forms.List else if bytes_eq kind (codes "bitmap") then Some forms.Bitmap else None

-- the request of a file, a column, a form and another name for the index
abbrev pub index_request_of : Option (List ℕ) → List ℕ → Option Form → Option (List ℕ) → Option IndexRequest
index_request_of (Some file) column (Some form) (Some out) = if bytes_eq file out then None else Some (record { file = file; column = column; form = form; out = out })
index_request_of file column form out = None

-- the request that the words after the verb spell
abbrev pub index_request : List (List ℕ) → Option IndexRequest
index_request (file ∷ column ∷ kind ∷ out ∷ []) = index_request_of (file_name file) column (form_named kind) (file_name out)
index_request words = None

-- the answer where an index is built so: its file, or that the column has none, or that it would be too long
abbrev pub on_built : IndexRequest → Result (List ℕ) BuildError → Answer
on_built request (Ok bytes) = made_answer (record { name = request.out; bytes = bytes } ∷ [])
on_built request (Err (errors.Limit size)) = limited (limit_text (codes "file") request.out size)
on_built request (Err why) = refusal_answer (PlainColumn request.column)

-- the answer over a column: its index names the table's file as it is called in its folder
abbrev pub built_answer : IndexRequest → Grid → ℕ → Col → Answer
built_answer request g c column = on_built request (built_by g.head.order (last_part request.file) request.form column (cells_of g c) column.count)

-- the answer over a table
abbrev pub grid_index_answer : IndexRequest → Grid → Answer
grid_index_answer request g = on_column (built_answer request g) request.column g.head.columns

-- the answer over the bytes of a file
abbrev pub index_bytes_answer : IndexRequest → List ℕ → Answer
index_bytes_answer request bytes = on_table (grid_index_answer request) request.file (table_of bytes)

-- the answer over the files of a tree
abbrev pub index_answer : Files → IndexRequest → Answer
index_answer files request = on_required_file (index_bytes_answer request) request.file files

-- One file is made, under this name: a thematic index that agrees with the column at this position, and is no larger than a file may be.
abbrev pub MakesIndex : Grid → ℕ → List ℕ → Answer → Type 0
MakesIndex g c name answer = (made : List ℕ) × (answer.made ≡ record { name = name; bytes = made } ∷ []) × ServesColumn g c made × (length made ≤ most_bytes)

-- where `index` is done, it makes an index that agrees with the column
abbrev pub MadeIndexesServe : Type 0
MadeIndexesServe = (request : IndexRequest) (bytes : List ℕ) (g : Grid) (c : ℕ) (column : Col) → IsBytes bytes → table_of bytes ≡ Ok g → place_of request.column g.head.columns ≡ Some c → slice_get g.head.columns c ≡ Some column
    → (index_bytes_answer request bytes).verdict ≡ Done → MakesIndex g c request.out (index_bytes_answer request bytes)

-- the index that is asked for isn't made in the table's file
abbrev pub IsElsewhere : Option IndexRequest → Type 0
IsElsewhere None = Unit {0}
IsElsewhere (Some request) = bytes_eq request.file request.out ≡ false

abbrev pub IndexesElsewhere : Type 0
IndexesElsewhere = (words : List (List ℕ)) → IsElsewhere (index_request words)
