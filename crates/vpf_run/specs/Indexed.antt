-- An indexed selection is a plain scan, where its index agrees.
use Rattle.std.specs.Prelude.{◌≡◌, ℕ, List, Some, Ok, slice_get}
use Rattle.vpf_base.specs.Bytes.{IsBytes}
use Rattle.vpf_source.specs.Files.{Files}
use Rattle.vpf_head.specs.Head.{Col, place_of}
use Rattle.vpf_table.specs.Grid.{Grid}
use Rattle.vpf_table.specs.Reading.{table_of}
use Rattle.vpf_replies.specs.Answer.{Answer}
use Rattle.vpf_table_commands.specs.declared.indexing.IndexRequest.{IndexRequest}
use Rattle.vpf_table_commands.specs.declared.selecting.RowsRequest.{RowsRequest}
use Rattle.vpf_table_commands.specs.Rows.{IndexAgrees, plain_rows_answer, theme_file}
use Rattle.vpf_run.specs.declared.command.Command.TheVariants.{Rows}
use Rattle.vpf_run.specs.Commands.{IsAnswerTo}

-- what is answered where no thematic index serves
abbrev pub IsPlainAnswer : Files → RowsRequest → Answer → Type 0
IsPlainAnswer files request answer = answer ≡ plain_rows_answer files request

-- where the index agrees, the answer by a plain scan is the answer
abbrev pub PlainAnswers : Type 0
PlainAnswers = (files : Files) (request : RowsRequest) (answer : Answer) → IndexAgrees files request → IsPlainAnswer files request answer → IsAnswerTo (Rows request) files answer

-- Rows are asked for of the column of a table that is indexed, and the table's header names the index that is made as that
-- of the column. The table's file holds bytes.
pub record AsksForIndexed (files : Files) (request : IndexRequest) (asked : RowsRequest) : Type 0 where
  pub same_file : asked.file ≡ request.file
  pub same_column : asked.column ≡ request.column
  pub bytes : List ℕ
  pub held : files request.file ≡ Some bytes
  pub are : IsBytes bytes
  pub grid : Grid
  pub read : table_of bytes ≡ Ok grid
  pub place : ℕ
  pub found : place_of request.column grid.head.columns ≡ Some place
  pub column : Col
  pub there : slice_get grid.head.columns place ≡ Some column
  pub named : theme_file asked column ≡ Some request.out
