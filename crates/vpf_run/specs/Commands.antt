-- The commands, and what each answers.
use Rattle.std.specs.Prelude.{◌≡◌, ℕ, List, [], ◌∷◌, Option, None, Some, codes, if◌then◌else◌}
use Rattle.std.specs.Option.{option_map}
use Rattle.std.specs.Str.{bytes_eq}
use Rattle.vpf_source.specs.Files.{Files}
use Rattle.vpf_replies.specs.Answer.{Answer, usage_answer}
use Rattle.vpf_table_commands.specs.Accept.{table_answer, table_request}
use Rattle.vpf_table_commands.specs.Cycles.{IsCyclesAnswer, cycles_request}
use Rattle.vpf_table_commands.specs.Index.{index_answer, index_request}
use Rattle.vpf_table_commands.specs.Rows.{rows_answer, rows_request}
use Rattle.vpf_table_commands.specs.Show.{show_answer, show_request}
use Rattle.vpf_table_commands.specs.Swap.{swap_answer, swap_request}
use Rattle.vpf_library_commands.specs.Check.{check_answer, check_request}
use Rattle.vpf_library_commands.specs.Glue.{glue_answer}
use Rattle.vpf_library_commands.specs.Make.{make_request}
use Rattle.vpf_library_commands.specs.Tile.{tile_answer}
use Rattle.vpf_library_commands.specs.Trace.{IsTraceAnswer}
use Rattle.vpf_feature_commands.specs.Select.{select_answer, select_request}
use Rattle.vpf_drill.specs.Drill.{IsDrill}
use Rattle.vpf_drill.specs.Request.{drill_request}
use Rattle.vpf_run.specs.declared.command.Command.{Command}
use Rattle.vpf_run.specs.declared.command.Command.TheVariants.{Show, Table, Cycles, Swap, Index, Rows, Check, Trace, Tile, Glue, Select, Drill}

-- the command of a verb and the words after it
abbrev pub command_by : List ℕ → List (List ℕ) → Option Command
command_by verb words =
    if bytes_eq verb (codes "show") then option_map Show (show_request words)
    else if bytes_eq verb (codes "table") then option_map Table (table_request words)
    else if bytes_eq verb (codes "cycles") then option_map Cycles (cycles_request words)
    else if bytes_eq verb (codes "swap") then option_map Swap (swap_request words)
    else if bytes_eq verb (codes "index") then option_map Index (index_request words)
    else if bytes_eq verb (codes "rows") then option_map Rows (rows_request words)
    else if bytes_eq verb (codes "check") then option_map Check (check_request words)
    else if bytes_eq verb (codes "trace") then option_map Trace (check_request words)
    else if bytes_eq verb (codes "drill") then option_map Drill (drill_request words)
    else if bytes_eq verb (codes "glue") then option_map Glue (make_request words)
    else if bytes_eq verb (codes "select") then option_map Select (select_request words)
    else if bytes_eq verb (codes "tile") then option_map Tile (make_request words)
    else None

-- the command that words spell
abbrev pub command_of : List (List ℕ) → Option Command
command_of [] = None
command_of (verb ∷ words) = command_by verb words

-- what a command answers over the files of a tree
abbrev pub IsAnswerTo : Command → Files → Answer → Type 0
IsAnswerTo (Show request) files answer = answer ≡ show_answer files request
IsAnswerTo (Table request) files answer = answer ≡ table_answer files request
IsAnswerTo (Cycles request) files answer = IsCyclesAnswer files request answer
IsAnswerTo (Swap request) files answer = answer ≡ swap_answer files request
IsAnswerTo (Index request) files answer = answer ≡ index_answer files request
IsAnswerTo (Rows request) files answer = answer ≡ rows_answer files request
IsAnswerTo (Check request) files answer = answer ≡ check_answer files request
IsAnswerTo (Trace request) files answer = IsTraceAnswer files request answer
IsAnswerTo (Tile request) files answer = answer ≡ tile_answer files request
IsAnswerTo (Glue request) files answer = answer ≡ glue_answer files request
IsAnswerTo (Select request) files answer = answer ≡ select_answer files request
IsAnswerTo (Drill n) files answer = IsDrill n answer

-- the answer of a command that reads no file, whatever the tree holds; any other has none of its own
abbrev pub IsAnswerAlone : Command → Answer → Type 0
IsAnswerAlone (Drill n) answer = IsDrill n answer
IsAnswerAlone command answer = ⊥

-- The answer to words: usage where they are no command, over every tree, and else what the command answers over the files,
-- where the tree tells them; a command that reads none has its answer over every tree.
abbrev pub IsAnswer : Option Command → Option Files → Answer → Type 0
IsAnswer None told answer = answer ≡ usage_answer
IsAnswer (Some command) None answer = IsAnswerAlone command answer
IsAnswer (Some command) (Some files) answer = IsAnswerTo command files answer
