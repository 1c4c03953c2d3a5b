-- What commands answer by the grammar alone: over a file that is spelled as a table, and over one that has a first fault.
use Rattle.std.specs.Prelude.{◌≡◌, ◌≤◌, List, ℕ, length, None, Some}
use Rattle.vpf_base.specs.Limits.{most_bytes}
use Rattle.vpf_source.specs.Files.{Files}
use Rattle.vpf_triplet.specs.declared.places.Place.{Place}
use Rattle.vpf_table.specs.Faults.{FirstFault}
use Rattle.vpf_table.specs.Grid.{Grid}
use Rattle.vpf_table.specs.Spelling.{IsTable}
use Rattle.vpf_replies.specs.Answer.{Answer, done}
use Rattle.vpf_replies.specs.Tables.{fault_answer}
use Rattle.vpf_table_commands.specs.declared.accepting.TableRequest.{TableRequest}
use Rattle.vpf_table_commands.specs.declared.cycling.CyclesRequest.{CyclesRequest}
use Rattle.vpf_table_commands.specs.declared.indexing.IndexRequest.{IndexRequest}
use Rattle.vpf_table_commands.specs.declared.selecting.RowsRequest.{RowsRequest}
use Rattle.vpf_table_commands.specs.declared.showing.ShowRequest.{ShowRequest}
use Rattle.vpf_table_commands.specs.declared.swapping.SwapRequest.{SwapRequest}
use Rattle.vpf_table_commands.specs.Accept.{accepted_text}
use Rattle.vpf_table_commands.specs.Cycles.{IsGridCycles}
use Rattle.vpf_table_commands.specs.Index.{grid_index_answer}
use Rattle.vpf_table_commands.specs.Rows.{column_answer, table_rows_answer}
use Rattle.vpf_table_commands.specs.Show.{show_text}
use Rattle.vpf_table_commands.specs.Swap.{turned, written_answer}
use Rattle.vpf_run.specs.declared.command.Command.{Command}
use Rattle.vpf_run.specs.declared.command.Command.TheVariants.{Show, Table, Cycles, Swap, Index, Rows}
use Rattle.vpf_run.specs.Commands.{IsAnswerTo}

-- the file of this name holds these bytes, no more than a file may
pub record HasFile (files : Files) (name bytes : List ℕ) : Type 0 where
  pub held : files name ≡ Some bytes
  pub small : length bytes ≤ most_bytes

-- the command is over the table in the file of this name
pub data IsOver : Command → List ℕ → Type 0 where
  show : (request : ShowRequest) → IsOver (Show request) request.file
  table : (request : TableRequest) → IsOver (Table request) request.file
  cycles : (request : CyclesRequest) → IsOver (Cycles request) request.file
  swap : (request : SwapRequest) → IsOver (Swap request) request.file
  index : (request : IndexRequest) → IsOver (Index request) request.file
  rows : (request : RowsRequest) → IsOver (Rows request) request.file

-- what the command answers over the table that the bytes of the file of this name are
pub data SaysOfTable (files : Files) (bytes : List ℕ) (g : Grid) : Command → List ℕ → Answer → Type 0 where
  shows : (request : ShowRequest) → SaysOfTable files bytes g (Show request) request.file (done (show_text g))
  accepts : (request : TableRequest) → SaysOfTable files bytes g (Table request) request.file (done (accepted_text g))
  lists : (request : CyclesRequest) (answer : Answer) → IsGridCycles request.file g answer → SaysOfTable files bytes g (Cycles request) request.file answer
  turns : (request : SwapRequest) → SaysOfTable files bytes g (Swap request) request.file (written_answer request.out (turned g))
  indexes : (request : IndexRequest) → SaysOfTable files bytes g (Index request) request.file (grid_index_answer request g)
  selects : (request : RowsRequest)
      → SaysOfTable files bytes g (Rows request) request.file (table_rows_answer (column_answer files request) files request bytes g)

-- where the file is spelled as a table, what is said of that table is the answer
abbrev pub TablesAreSaid : Type 0
TablesAreSaid = (command : Command) (files : Files) (name bytes : List ℕ) (g : Grid) (answer : Answer) → HasFile files name bytes → IsTable g bytes
    → SaysOfTable files bytes g command name answer → IsAnswerTo command files answer

-- where the file has a first fault, that fault is the answer
abbrev pub FaultsAreSaid : Type 0
FaultsAreSaid = (command : Command) (files : Files) (name bytes : List ℕ) (place : Place) → HasFile files name bytes → FirstFault bytes None place
    → IsOver command name → IsAnswerTo command files (fault_answer name place)
