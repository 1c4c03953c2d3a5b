-- The answers over a file that is spelled as a table, and over one that has a first fault.
use Rattle.std.proofs.Common.{◌≡◌, ◌∙◌, ℕ, List, Option, None, Some, Result, Ok, Err, refl, sym, ap, subst}
use Rattle.vpf_base.specs.Limits.{most_bytes}
use Rattle.vpf_source.specs.Files.{Files}
use Rattle.vpf_source.specs.Loading.{load_answer}
use Rattle.vpf_triplet.specs.declared.places.Place.{Place}
use Rattle.vpf_table.specs.Faults.{FirstFault}
use Rattle.vpf_table.specs.Grid.{Grid}
use Rattle.vpf_table.specs.Opening.{opened_of}
use Rattle.vpf_table.specs.Reading.{table_of}
use Rattle.vpf_table.specs.Spans.{IsOpened}
use Rattle.vpf_replies.specs.Answer.{Answer, done}
use Rattle.vpf_replies.specs.Found.{IsLoadedAnswer, missing_answer, on_loaded, on_required_file}
use Rattle.vpf_replies.specs.Tables.{IsTableAnswer, fault_answer, on_table}
use Rattle.vpf_table_commands.specs.Accept.{accepted_text}
use Rattle.vpf_table_commands.specs.Cycles.{IsBytesCycles, IsGridCycles}
use Rattle.vpf_table_commands.specs.Index.{grid_index_answer}
use Rattle.vpf_table_commands.specs.Rows.{column_answer, table_rows_answer}
use Rattle.vpf_table_commands.specs.Show.{show_text}
use Rattle.vpf_table_commands.specs.Swap.{turned, written_answer}
use Rattle.vpf_run.specs.declared.command.Command.{Command}
use Rattle.vpf_run.specs.Commands.{IsAnswer, IsAnswerTo}
use Rattle.vpf_run.specs.Grammar as says
use Rattle.vpf_run.specs.Grammar.{FaultsAreSaid, HasFile, TablesAreSaid}
use Rattle.vpf_run.proofs.ServedAnswers.{loaded_small}

-- the bytes of a file that is there and isn't too large are loaded
loaded : (files : Files) (name bytes : List ℕ) → HasFile files name bytes → load_answer (files name) most_bytes ≡ Ok (Some bytes)
loaded files name bytes has = ap (λ (file : Option (List ℕ)). load_answer file most_bytes) has.held ∙ loaded_small bytes has.small

over_file : (over : List ℕ → Grid → Answer) (files : Files) (name bytes : List ℕ) (r : Result Grid Place) → HasFile files name bytes → table_of bytes ≡ r
    → on_required_file (λ b. on_table (over b) name (table_of b)) name files ≡ on_table (over bytes) name r
over_file over files name bytes r has e =
    ap (on_loaded (λ b. on_table (over b) name (table_of b)) (missing_answer name) name) (loaded files name bytes has) ∙ ap (on_table (over bytes) name) e

cycles_over : (files : Files) (name bytes : List ℕ) (r : Result Grid Place) (answer : Answer) → HasFile files name bytes → table_of bytes ≡ r → IsTableAnswer (IsGridCycles name) name r answer
    → IsLoadedAnswer (IsBytesCycles name) name (load_answer (files name) most_bytes) answer
cycles_over files name bytes r answer has e is =
    let over = subst (λ (x : Result Grid Place). IsTableAnswer (IsGridCycles name) name x answer) (sym e) is in
    subst (λ (x : Result (Option (List ℕ)) ℕ). IsLoadedAnswer (IsBytesCycles name) name x answer) (sym (loaded files name bytes has)) over

-- what is opened as a table is spelled so, and what has a first fault isn't opened
abbrev pub OpensSpelled : Type 0
OpensSpelled = (bytes : List ℕ) (index : Option (List ℕ)) (g : Grid) → IsOpened g bytes index → opened_of bytes index ≡ Ok g

abbrev pub RefusesFaulty : Type 0
RefusesFaulty = (bytes : List ℕ) (index : Option (List ℕ)) (place : Place) → FirstFault bytes index place → opened_of bytes index ≡ Err place

pub tables_said : OpensSpelled → TablesAreSaid
tables_said opens command files name bytes g answer has t (says.shows request) = sym (over_file (λ b h. done (show_text h)) files request.file bytes (Ok g) has (opens bytes None g t))
tables_said opens command files name bytes g answer has t (says.accepts request) = sym (over_file (λ b h. done (accepted_text h)) files request.file bytes (Ok g) has (opens bytes None g t))
tables_said opens command files name bytes g answer has t (says.lists request a is) = cycles_over files request.file bytes (Ok g) a has (opens bytes None g t) is
tables_said opens command files name bytes g answer has t (says.turns request) = sym (over_file (λ b h. written_answer request.out (turned h)) files request.file bytes (Ok g) has (opens bytes None g t))
tables_said opens command files name bytes g answer has t (says.indexes request) = sym (over_file (λ b h. grid_index_answer request h) files request.file bytes (Ok g) has (opens bytes None g t))
tables_said opens command files name bytes g answer has t (says.selects request) = sym (over_file (table_rows_answer (column_answer files request) files request) files request.file bytes (Ok g) has (opens bytes None g t))

pub faults_said : RefusesFaulty → FaultsAreSaid
faults_said refuses command files name bytes p has f (says.show request) = sym (over_file (λ b h. done (show_text h)) files request.file bytes (Err p) has (refuses bytes None p f))
faults_said refuses command files name bytes p has f (says.table request) = sym (over_file (λ b h. done (accepted_text h)) files request.file bytes (Err p) has (refuses bytes None p f))
faults_said refuses command files name bytes p has f (says.cycles request) = cycles_over files request.file bytes (Err p) (fault_answer request.file p) has (refuses bytes None p f) refl
faults_said refuses command files name bytes p has f (says.swap request) = sym (over_file (λ b h. written_answer request.out (turned h)) files request.file bytes (Err p) has (refuses bytes None p f))
faults_said refuses command files name bytes p has f (says.index request) = sym (over_file (λ b h. grid_index_answer request h) files request.file bytes (Err p) has (refuses bytes None p f))
faults_said refuses command files name bytes p has f (says.rows request) = sym (over_file (table_rows_answer (column_answer files request) files request) files request.file bytes (Err p) has (refuses bytes None p f))

-- an answer to the command that words spell, over the files that are told
pub words_said : (asked : Option Command) (told : Option Files) (command : Command) (files : Files) (answer : Answer) → asked ≡ Some command → told ≡ Some files → IsAnswerTo command files answer → IsAnswer asked told answer
words_said asked told command files answer e f is =
    subst (λ (k : Option Command). IsAnswer k told answer) (sym e) (subst (λ (t : Option Files). IsAnswer (Some command) t answer) (sym f) is)
