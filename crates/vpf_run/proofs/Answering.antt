-- What words ask for, and that it has one answer.
use Rattle.std.proofs.Common.{◌≡◌, ℕ, Bool, true, false, List, [], ◌∷◌, Option, None, Some, Result, Ok, Err, refl, sym, ◌∙◌, ap, subst}
use Rattle.std.specs.Prelude.{IfOk, if◌then◌else◌, codes}
use Rattle.std.specs.Option.{option_map}
use Rattle.std.specs.Str.{bytes_eq}
use Rattle.vpf_source.specs.Files.{Files, HoldsBytes}
use Rattle.vpf_replies.specs.declared.halting.Halt.{Halt}
use Rattle.vpf_replies.specs.declared.halting.Halt.TheVariants as halts
use Rattle.vpf_replies.specs.declared.halting.Stop.{Stop}
use Rattle.vpf_replies.specs.declared.verdict.Verdict.TheVariants.{Done}
use Rattle.vpf_replies.specs.Answer.{Answer}
use Rattle.vpf_replies.specs.Halting.{ComesTo, settled}
use Rattle.vpf_table_commands.specs.Accept.{table_answer, table_request}
use Rattle.vpf_table_commands.specs.Cycles.{HasCyclesAnswer, OneCyclesAnswer, cycles_request}
use Rattle.vpf_table_commands.specs.Index.{IndexesElsewhere, IsElsewhere, index_answer, index_request}
use Rattle.vpf_table_commands.specs.declared.indexing.IndexRequest.{IndexRequest}
use Rattle.vpf_table_commands.specs.declared.selecting.RowsRequest.{RowsRequest}
use Rattle.vpf_table_commands.specs.Rows.{IndexAgrees, PlainRows, rows_answer, rows_request}
use Rattle.vpf_table_commands.specs.Show.{show_answer, show_request}
use Rattle.vpf_table_commands.specs.Swap.{swap_answer, swap_request}
use Rattle.vpf_library_commands.specs.Check.{check_answer, check_request}
use Rattle.vpf_feature_commands.specs.Select.{select_answer, select_request}
use Rattle.vpf_library_commands.specs.Glue.{glue_answer}
use Rattle.vpf_library_commands.specs.Make.{make_request}
use Rattle.vpf_library_commands.specs.Tile.{tile_answer}
use Rattle.vpf_library_commands.specs.Trace.{HasTraceAnswer, OneTraceAnswer}
use Rattle.vpf_drill.specs.Drill.{IsDrill}
use Rattle.vpf_drill.specs.Inner.Laws.{HasDrill, OneDrill}
use Rattle.vpf_drill.specs.Request.{CanBeAsked, RequestsCanBeAsked, drill_request}
use Rattle.vpf_run.specs.declared.command.Command.{Command}
use Rattle.vpf_run.specs.declared.command.Command.TheVariants.{Show, Table, Cycles, Swap, Index, Rows, Check, Trace, Tile, Glue, Select, Drill}
use Rattle.vpf_run.specs.Commands.{IsAnswer, IsAnswerAlone, IsAnswerTo, command_of}
use Rattle.vpf_run.specs.Inner.Deciding.{HasAnswer, OneAnswer}
use Rattle.vpf_run.specs.Indexed.{IsPlainAnswer, PlainAnswers}

-- ---- what is so of all commands that words spell

either_so : (P : Option Command → Type 0) (b : Bool) (c d : Option Command) → P c → P d → P (if b then c else d)
either_so P true c d h k = h
either_so P false c d h k = k

asked_so : {V : Type 0} → (P : Option Command → Type 0) (command : V → Command) → P None → ((request : V) → P (Some (command request))) → (request : Option V)
    → P (option_map command request)
asked_so P command none h None = none
asked_so P command none h (Some request) = h request

-- ---- a grid that is asked for can be

abbrev HasSide : Option Command → Type 0
HasSide (Some (Drill n)) = CanBeAsked n
HasSide command = Unit {0}

drill_sided : RequestsCanBeAsked → (words : List (List ℕ)) → HasSide (option_map Drill (drill_request words))
drill_sided law words = by (drill_request words) refl
  where
    by : (request : Option ℕ) → drill_request words ≡ request → HasSide (option_map Drill request)
    by None e = tt
    by (Some request) e = law words request e

words_sided : RequestsCanBeAsked → (words : List (List ℕ)) → HasSide (command_of words)
words_sided law [] = tt
words_sided law (verb ∷ words) =
    either_so HasSide (bytes_eq verb (codes "show")) _ _ (asked_so HasSide Show tt (λ request. tt) (show_request words))
    (either_so HasSide (bytes_eq verb (codes "table")) _ _ (asked_so HasSide Table tt (λ request. tt) (table_request words))
    (either_so HasSide (bytes_eq verb (codes "cycles")) _ _ (asked_so HasSide Cycles tt (λ request. tt) (cycles_request words))
    (either_so HasSide (bytes_eq verb (codes "swap")) _ _ (asked_so HasSide Swap tt (λ request. tt) (swap_request words))
    (either_so HasSide (bytes_eq verb (codes "index")) _ _ (asked_so HasSide Index tt (λ request. tt) (index_request words))
    (either_so HasSide (bytes_eq verb (codes "rows")) _ _ (asked_so HasSide Rows tt (λ request. tt) (rows_request words))
    (either_so HasSide (bytes_eq verb (codes "check")) _ _ (asked_so HasSide Check tt (λ request. tt) (check_request words))
    (either_so HasSide (bytes_eq verb (codes "trace")) _ _ (asked_so HasSide Trace tt (λ request. tt) (check_request words))
    (either_so HasSide (bytes_eq verb (codes "drill")) _ _ (drill_sided law words)
    (either_so HasSide (bytes_eq verb (codes "glue")) _ _ (asked_so HasSide Glue tt (λ request. tt) (make_request words))
    (either_so HasSide (bytes_eq verb (codes "select")) _ _ (asked_so HasSide Select tt (λ request. tt) (select_request words))
    (either_so HasSide (bytes_eq verb (codes "tile")) _ None (asked_so HasSide Tile tt (λ request. tt) (make_request words)) tt)))))))))))

pub asked_side : RequestsCanBeAsked → (words : List (List ℕ)) (n : ℕ) → command_of words ≡ Some (Drill n) → CanBeAsked n
asked_side law words n e = subst HasSide e (words_sided law words)

-- ---- there is an answer

command_has : HasCyclesAnswer → HasTraceAnswer → HasDrill → (command : Command) (files : Files) → HasSide (Some command) → HoldsBytes files
    → (answer : Answer) × IsAnswerTo command files answer
command_has cycles trace drill (Show request) files side bytes = (show_answer files request, refl)
command_has cycles trace drill (Table request) files side bytes = (table_answer files request, refl)
command_has cycles trace drill (Cycles request) files side bytes = cycles files request
command_has cycles trace drill (Swap request) files side bytes = (swap_answer files request, refl)
command_has cycles trace drill (Index request) files side bytes = (index_answer files request, refl)
command_has cycles trace drill (Rows request) files side bytes = (rows_answer files request, refl)
command_has cycles trace drill (Check request) files side bytes = (check_answer files request, refl)
command_has cycles trace drill (Trace request) files side bytes = trace files request bytes
command_has cycles trace drill (Tile request) files side bytes = (tile_answer files request, refl)
command_has cycles trace drill (Glue request) files side bytes = (glue_answer files request, refl)
command_has cycles trace drill (Select request) files side bytes = (select_answer files request, refl)
command_has cycles trace drill (Drill n) files side bytes = drill n side

pub has_answer : HasCyclesAnswer → HasTraceAnswer → HasDrill → RequestsCanBeAsked → HasAnswer
has_answer cycles trace drill law words command files e bytes = command_has cycles trace drill command files (subst HasSide e (words_sided law words)) bytes

commands_one : OneCyclesAnswer → OneTraceAnswer → OneDrill → (command : Command) (files : Files) (a b : Answer) → IsAnswerTo command files a → IsAnswerTo command files b → a ≡ b
commands_one cycles trace drill (Show request) files a b e f = e ∙ sym f
commands_one cycles trace drill (Table request) files a b e f = e ∙ sym f
commands_one cycles trace drill (Cycles request) files a b e f = cycles files request a b e f
commands_one cycles trace drill (Swap request) files a b e f = e ∙ sym f
commands_one cycles trace drill (Index request) files a b e f = e ∙ sym f
commands_one cycles trace drill (Rows request) files a b e f = e ∙ sym f
commands_one cycles trace drill (Check request) files a b e f = e ∙ sym f
commands_one cycles trace drill (Trace request) files a b e f = trace files request a b e f
commands_one cycles trace drill (Tile request) files a b e f = e ∙ sym f
commands_one cycles trace drill (Glue request) files a b e f = e ∙ sym f
commands_one cycles trace drill (Select request) files a b e f = e ∙ sym f
commands_one cycles trace drill (Drill n) files a b e f = drill n a b e f

alone_one : OneDrill → (command : Command) (a b : Answer) → IsAnswerAlone command a → IsAnswerAlone command b → a ≡ b
alone_one drill (Show request) a b e f = absurd e
alone_one drill (Table request) a b e f = absurd e
alone_one drill (Cycles request) a b e f = absurd e
alone_one drill (Swap request) a b e f = absurd e
alone_one drill (Index request) a b e f = absurd e
alone_one drill (Rows request) a b e f = absurd e
alone_one drill (Check request) a b e f = absurd e
alone_one drill (Trace request) a b e f = absurd e
alone_one drill (Tile request) a b e f = absurd e
alone_one drill (Glue request) a b e f = absurd e
alone_one drill (Select request) a b e f = absurd e
alone_one drill (Drill n) a b e f = drill n a b e f

pub one_answer : OneCyclesAnswer → OneTraceAnswer → OneDrill → OneAnswer
one_answer cycles trace drill None told a b e f = e ∙ sym f
one_answer cycles trace drill (Some command) None a b e f = alone_one drill command a b e f
one_answer cycles trace drill (Some command) (Some files) a b e f = commands_one cycles trace drill command files a b e f

-- ---- the answer of `drill`

-- it is the same over every tree, and makes no file
drill_over : (told : Option Files) (n : ℕ) (answer : Answer) → IsDrill n answer → IsAnswer (Some (Drill n)) told answer
drill_over None n answer is = is
drill_over (Some files) n answer is = is

over_drill : (told : Option Files) (n : ℕ) (answer : Answer) → IsAnswer (Some (Drill n)) told answer → IsDrill n answer
over_drill None n answer is = is
over_drill (Some files) n answer is = is

pub drill_answered : HasDrill → (told : Option Files) (n : ℕ) → CanBeAsked n → (answer : Answer) × IsAnswer (Some (Drill n)) told answer
drill_answered law told n side = let has = law n side in (has.0, drill_over told n has.0 has.1)

pub drill_is_done : (told : Option Files) (n : ℕ) (answer : Answer) → IsAnswer (Some (Drill n)) told answer → answer.verdict ≡ Done
drill_is_done told n answer is = ap (λ (a : Answer). a.verdict) (over_drill told n answer is).is

pub drill_makes_none : HasDrill → (command : Option Command) (told : Option Files) (n : ℕ) (reply : Answer) → command ≡ Some (Drill n)
    → CanBeAsked n → ((answer : Answer) → IsAnswer command told answer → IsAnswer command told reply) → reply.made ≡ []
drill_makes_none law command told n reply e side answers =
    let has = drill_answered law told n side in
    let given = subst (λ (k : Option Command). IsAnswer k told has.0) (sym e) has.1 in
    let got = subst (λ (k : Option Command). IsAnswer k told reply) e (answers has.0 given) in
    ap (λ (a : Answer). a.made) (over_drill told n reply got).is

-- ---- what a command comes to

alone_settled : (command : Command) (outcome : Result Answer Halt) → ComesTo (IsAnswerAlone command) outcome → IfOk (settled outcome) (IsAnswerAlone command)
alone_settled command (Ok reply) h = h
alone_settled command (Err (halts.Answered reply)) h = h
alone_settled command (Err (halts.Stop stop)) h = tt

settled_so : (command : Command) (files : Files) (outcome : Result Answer Halt) → ComesTo (IsAnswerTo command files) outcome → IfOk (settled outcome) (IsAnswerTo command files)
settled_so command files (Ok reply) h = h
settled_so command files (Err (halts.Answered reply)) h = h
settled_so command files (Err (halts.Stop stop)) h = tt

-- where the command has an answer, it comes to one
settled_answer : (command : Command) (told : Option Files) (outcome : Result Answer Halt) → ((files : Files) → told ≡ Some files → ComesTo (IsAnswerTo command files) outcome)
    → ((answer : Answer) → IsAnswerAlone command answer → ComesTo (IsAnswerAlone command) outcome) → (answer : Answer) → IsAnswer (Some command) told answer
    → IfOk (settled outcome) (IsAnswer (Some command) told)
settled_answer command None outcome h alone answer is = alone_settled command outcome (alone answer is)
settled_answer command (Some files) outcome h alone answer is = settled_so command files outcome (h files refl)

-- .. and so does what it is settled to
pub replied : (asked : Option Command) (command : Command) (told : Option Files) (outcome : Result Answer Halt) (result : Result Answer Stop) → Some command ≡ asked → result ≡ settled outcome
    → ((files : Files) → told ≡ Some files → ComesTo (IsAnswerTo command files) outcome) → ((answer : Answer) → IsAnswerAlone command answer → ComesTo (IsAnswerAlone command) outcome)
    → (answer : Answer) → IsAnswer asked told answer → IfOk result (IsAnswer asked told)
replied asked command told outcome result e s h alone answer is =
    let given = subst (λ (k : Option Command). IsAnswer k told answer) (sym e) is in
    let got = subst (λ (r : Result Answer Stop). IfOk r (IsAnswer (Some command) told)) (sym s) (settled_answer command told outcome h alone answer given) in
    subst (λ (k : Option Command). IfOk result (IsAnswer k told)) e got

-- ---- a plain scan answers the same, where the index agrees

pub plain_answers : PlainRows → PlainAnswers
plain_answers law files request answer agrees plain = plain ∙ law files request agrees

-- words that ask for rows are so answered
pub words_answered : PlainAnswers → (command : Option Command) (told : Option Files) (files : Files) (request : RowsRequest) (answer : Answer) → command ≡ Some (Rows request) → told ≡ Some files
    → IndexAgrees files request → IsPlainAnswer files request answer → IsAnswer command told answer
words_answered law command told files request answer e f agrees plain =
    subst (λ (k : Option Command). IsAnswer k told answer) (sym e) (subst (λ (t : Option Files). IsAnswer (Some (Rows request)) t answer) (sym f) (law files request answer agrees plain))

-- ---- an index is made under another name than the table's

-- a command that makes an index makes it elsewhere than in the table's file
abbrev IsApart : Option Command → Type 0
IsApart (Some (Index request)) = bytes_eq request.file request.out ≡ false
IsApart command = Unit {0}

index_apart : (request : Option IndexRequest) → IsElsewhere request → IsApart (option_map Index request)
index_apart None h = tt
index_apart (Some request) h = h

words_apart : IndexesElsewhere → (words : List (List ℕ)) → IsApart (command_of words)
words_apart law [] = tt
words_apart law (verb ∷ words) =
    either_so IsApart (bytes_eq verb (codes "show")) _ _ (asked_so IsApart Show tt (λ request. tt) (show_request words))
    (either_so IsApart (bytes_eq verb (codes "table")) _ _ (asked_so IsApart Table tt (λ request. tt) (table_request words))
    (either_so IsApart (bytes_eq verb (codes "cycles")) _ _ (asked_so IsApart Cycles tt (λ request. tt) (cycles_request words))
    (either_so IsApart (bytes_eq verb (codes "swap")) _ _ (asked_so IsApart Swap tt (λ request. tt) (swap_request words))
    (either_so IsApart (bytes_eq verb (codes "index")) _ _ (index_apart (index_request words) (law words))
    (either_so IsApart (bytes_eq verb (codes "rows")) _ _ (asked_so IsApart Rows tt (λ request. tt) (rows_request words))
    (either_so IsApart (bytes_eq verb (codes "check")) _ _ (asked_so IsApart Check tt (λ request. tt) (check_request words))
    (either_so IsApart (bytes_eq verb (codes "trace")) _ _ (asked_so IsApart Trace tt (λ request. tt) (check_request words))
    (either_so IsApart (bytes_eq verb (codes "drill")) _ _ (asked_so IsApart Drill tt (λ request. tt) (drill_request words))
    (either_so IsApart (bytes_eq verb (codes "glue")) _ _ (asked_so IsApart Glue tt (λ request. tt) (make_request words))
    (either_so IsApart (bytes_eq verb (codes "select")) _ _ (asked_so IsApart Select tt (λ request. tt) (select_request words))
    (either_so IsApart (bytes_eq verb (codes "tile")) _ None (asked_so IsApart Tile tt (λ request. tt) (make_request words)) tt)))))))))))

pub made_elsewhere : IndexesElsewhere → (words : List (List ℕ)) (request : IndexRequest) → command_of words ≡ Some (Index request) → bytes_eq request.file request.out ≡ false
made_elsewhere law words request e = subst IsApart e (words_apart law words)
