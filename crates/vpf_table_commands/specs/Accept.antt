-- `table`: whether a file is a table.
use Rattle.std.specs.Prelude.{ℕ, List, length, Option, None, Some, Result, Ok, Err, codes}
use Rattle.std.specs.Fmt.{decimal}
use Rattle.vpf_source.specs.Files.{Files}
use Rattle.vpf_triplet.specs.declared.places.Place.{Place}
use Rattle.vpf_table.specs.Grid.{Grid}
use Rattle.vpf_table.specs.Reading.{table_of}
use Rattle.vpf_feed.specs.declared.summary.Summary.{Summary}
use Rattle.vpf_findings.specs.Text.Texts.{◌&◌}
use Rattle.vpf_replies.specs.Answer.{Answer, done}
use Rattle.vpf_replies.specs.Found.{on_required_file}
use Rattle.vpf_replies.specs.Tables.{fault_answer, on_table}
use Rattle.vpf_table_commands.specs.Words.{one_file}
use Rattle.vpf_table_commands.specs.declared.accepting.TableRequest.{TableRequest}

-- the request of a file
abbrev pub table_request_of : Option (List ℕ) → Option TableRequest
table_request_of None = None
table_request_of (Some file) = Some (record { file = file })

-- the request that the words after the verb spell
abbrev pub table_request : List (List ℕ) → Option TableRequest
table_request words = table_request_of (one_file words)

-- that it is one, with its numbers of rows and columns
abbrev pub accepted_text : Grid → List ℕ
accepted_text g = codes "accepted rows " & decimal (length g.rows) & codes " columns " & decimal (length g.head.columns) & codes "\n"

-- the same of a table that is summed up
abbrev pub summary_text : Summary → List ℕ
summary_text s = codes "accepted rows " & decimal s.rows & codes " columns " & decimal s.columns & codes "\n"

-- the answer to a file that comes to this, or has this first fault
abbrev pub summed_answer : List ℕ → Result Summary Place → Answer
summed_answer name (Ok s) = done (summary_text s)
summed_answer name (Err place) = fault_answer name place

-- the answer over the bytes of a file
abbrev pub table_bytes_answer : List ℕ → List ℕ → Answer
table_bytes_answer name bytes = on_table (λ g. done (accepted_text g)) name (table_of bytes)

-- the answer over the files of a tree
abbrev pub table_answer : Files → TableRequest → Answer
table_answer files request = on_required_file (table_bytes_answer request.file) request.file files
