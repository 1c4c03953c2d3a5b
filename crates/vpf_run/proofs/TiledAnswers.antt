-- What `tile` is done of: an untiled coverage that agrees and a plan that serves; the tree then holds its tiled library.
use Rattle.std.proofs.Common.{[], String, ◌≡◌, ◌∙◌, ℕ, Bool, true, false, cond, List, ◌∷◌, ◌++◌, length, map, Option, None, Some, Result, Ok, Err, refl, sym, ap, rules, subst}
use Rattle.std.specs.Prelude.{IsOk, IsUtf8, codes, string_bytes}
use Rattle.std.specs.List.{AllByRecursion}
use Rattle.std.specs.Option.{option_map}
use Rattle.std.specs.Str.{bytes_eq}
use Rattle.std.proofs.lemmas.Str.{IsUtf8-string_bytes}
use Rattle.vpf_source.specs.Files.{Files, HoldsBytes}
use Rattle.vpf_source.specs.Making.{with_all}
use Rattle.vpf_source.specs.declared.file.File.{File}
use Rattle.vpf_table.specs.declared.limit.Limit.{Limit as Passed}
use Rattle.vpf_prims.specs.Coverages.{tile_at}
use Rattle.vpf_prims.specs.Reading.{primitives_of}
use Rattle.vpf_prims.specs.Tables.{TileTables}
use Rattle.vpf_library_files.specs.Loading.Loading.{within}
use Rattle.vpf_library_files.specs.declared.loading.loading.LoadStop.{LoadStop}
use Rattle.vpf_tiling.specs.declared.tileable.refusals.Refusal.{Refusal}
use Rattle.vpf_library_files.specs.TableFiles.Adding.{NamedTable, files_made, first_limit_of, unless_limited}
use Rattle.vpf_library_files.specs.declared.table_files.errors.AddError.TheVariants as adds
use Rattle.vpf_feature_files.specs.Schemas.{Schema, joins_of}
use Rattle.vpf_features.specs.Finding.{Named}
use Rattle.vpf_library_commands.specs.FeatureWritingKeys.{numbered_row}
use Rattle.vpf_library_commands.specs.FeatureWritingMaking.{Made, made_then}
use Rattle.vpf_library_commands.specs.TileError.{TileError}
use Rattle.vpf_library_commands.specs.CutBy.{plan_refusal}
use Rattle.vpf_library_commands.specs.TilerMaking.{made_result, unless_keyed, unless_refused}
use Rattle.vpf_replies.specs.declared.verdict.Verdict.TheVariants.{Done}
use Rattle.vpf_replies.specs.Answer.{Answer}
use Rattle.vpf_library_commands.specs.declared.requesting.MakeRequest.{MakeRequest}
use Rattle.vpf_library_commands.specs.Made.{file_within}
use Rattle.vpf_feature_commands.specs.Select.{select_request}
use Rattle.vpf_library_commands.specs.Make.{make_request}
use Rattle.vpf_library_commands.specs.Tile.{TileParts, parts_answer, parts_finding, read_parts, tables_answer, tile_answer, tiled_answer, tiling_answer}
use Rattle.vpf_library_commands.specs.Check.{check_request}
use Rattle.vpf_drill.specs.Request.{drill_request}
use Rattle.vpf_table_commands.specs.Accept.{table_request}
use Rattle.vpf_table_commands.specs.Cycles.{cycles_request}
use Rattle.vpf_table_commands.specs.Index.{index_request}
use Rattle.vpf_table_commands.specs.Rows.{rows_request}
use Rattle.vpf_table_commands.specs.Show.{show_request}
use Rattle.vpf_table_commands.specs.Swap.{swap_request}
use Rattle.vpf_drill.specs.Cutting.{IsCutFrom, cut_features, cut_files, cut_plan, cut_tables, files_in_made}
use Rattle.vpf_drill.specs.TileTheoremLaws.{CutIsSource, RequestsHaveNames, RestIsLacked, SourceIsCut, TilesAreMade, TilingsAgree, TilingsAreAnswered}
use Rattle.vpf_library_commands.specs.FeatureReadingLaws.{LacksThemes}
use Rattle.vpf_drill.specs.Tilings.{AnswersTiling, HasNames, HoldsTiling, StandsAlone, made_request}
use Rattle.vpf_run.specs.declared.command.Command.{Command}
use Rattle.vpf_run.specs.declared.command.Command.TheVariants.{Show, Table, Cycles, Swap, Index, Rows, Check, Trace, Tile, Glue, Select, Drill}
use Rattle.vpf_run.specs.declared.status.Status.{Status}
use Rattle.vpf_run.specs.declared.status.Status.TheVariants as statuses
use Rattle.vpf_run.specs.Commands.{IsAnswer, command_by, command_of}
use Rattle.vpf_library_commands.specs.TileTheorem.Tilings.Sources.{HasTileSource, IsTileSource}
use Rattle.vpf_run.specs.Run.{Carries, World}
use Rattle.vpf_run.proofs.ServedAnswers.{verdict_done}
use Rattle.vpf_library_commands.specs.Inner.DecidingLaws.{stop_refuses}

-- ---- the words of `tile` are text, and so are the names that they spell

-- what another verb spells isn't this command
other_verb : {R : Type 0} (C : R → Command) (command : Command) (b : Bool) (o : Option R) (rest : Option Command) → ((r : R) → C r ≡ command → ⊥)
    → cond b (option_map C o) rest ≡ Some command → rest ≡ Some command
other_verb C command true None rest differ h = absurd cc
other_verb C command true (Some r) rest differ h = absurd (differ r cc)
other_verb C command false o rest differ h = h

last_verb : (request : MakeRequest) (b : Bool) (o : Option MakeRequest) → cond b (option_map Tile o) None ≡ Some (Tile request) → o ≡ Some request
last_verb request true None h = absurd cc
last_verb request true (Some r) h = cc
last_verb request false o h = absurd cc

tile_verb : (verb : List ℕ) (words : List (List ℕ)) (request : MakeRequest) → command_by verb words ≡ Some (Tile request) → make_request words ≡ Some request
tile_verb verb words request h =
    last_verb request (bytes_eq verb (codes "tile")) (make_request words)
    (other_verb Select (Tile request) (bytes_eq verb (codes "select")) (select_request words) _ (λ r e. cc)
    (other_verb Glue (Tile request) (bytes_eq verb (codes "glue")) (make_request words) _ (λ r e. cc)
    (other_verb Drill (Tile request) (bytes_eq verb (codes "drill")) (drill_request words) _ (λ n e. cc)
    (other_verb Trace (Tile request) (bytes_eq verb (codes "trace")) (check_request words) _ (λ r e. cc)
    (other_verb Check (Tile request) (bytes_eq verb (codes "check")) (check_request words) _ (λ r e. cc)
    (other_verb Rows (Tile request) (bytes_eq verb (codes "rows")) (rows_request words) _ (λ r e. cc)
    (other_verb Index (Tile request) (bytes_eq verb (codes "index")) (index_request words) _ (λ r e. cc)
    (other_verb Swap (Tile request) (bytes_eq verb (codes "swap")) (swap_request words) _ (λ r e. cc)
    (other_verb Cycles (Tile request) (bytes_eq verb (codes "cycles")) (cycles_request words) _ (λ r e. cc)
    (other_verb Table (Tile request) (bytes_eq verb (codes "table")) (table_request words) _ (λ r e. cc)
    (other_verb Show (Tile request) (bytes_eq verb (codes "show")) (show_request words) _ (λ r e. cc) h)))))))))))

-- the names of a request that words of text spell
command_names : RequestsHaveNames → (words : List (List ℕ)) (request : MakeRequest) → AllByRecursion IsUtf8 words → command_of words ≡ Some (Tile request)
    → HasNames request
command_names law [] request all h = absurd cc
command_names law (verb ∷ words) request all h = law words request all.1 (tile_verb verb words request h)

words_text : {Z : Type 0} (words : List (String Z)) → AllByRecursion IsUtf8 (map string_bytes words)
words_text [] = tt
words_text (word ∷ words) = (IsUtf8-string_bytes word, words_text words)

-- ---- what is done is cut from what was read

-- it is cut so, and these files are made
pub record DoneIsCut (files : Files) (request : MakeRequest) (answer : Answer) : Type 0 where
  pub parts : TileParts
  pub tables : TileTables
  pub cut : IsCutFrom files request parts tables
  pub made : answer.made ≡ cut_files request parts tables

-- ---- nothing speaks against the plan or the features, no file passes a limit, and the files are made

record IsMade (tables : List NamedTable) (out : List ℕ) (refusal : Option Refusal) (limit : Option (List ℕ × Passed)) (key : Option ℕ) (features : Made)
    (made : List File) : Type 0 where
  serves : refusal ≡ None
  fits : limit ≡ None
  joins : key ≡ None
  features_fit : IsOk features
  is : made ≡ map (file_within out) (files_made tables ++ files_in_made features)

-- what tiling comes to, by whether something does
abbrev comes_to : List NamedTable → Option Refusal → Option (List ℕ × Passed) → Option ℕ → Made → Result (List File) TileError
comes_to tables refusal limit key features = unless_refused refusal (unless_keyed key (made_result (made_then (unless_limited tables limit) features)))

made_by : (request : MakeRequest) (S : Schema) (tables : List NamedTable) (refusal : Option Refusal) (limit : Option (List ℕ × Passed)) (key : Option ℕ) (features : Made)
    → (tiled_answer request S (comes_to tables refusal limit key features)).verdict ≡ Done
    → IsMade tables request.out refusal limit key features (tiled_answer request S (comes_to tables refusal limit key features)).made
made_by request S tables (Some refusal) limit key features h = absurd cc
made_by request S tables None limit (Some row) features h = absurd cc
made_by request S tables None (Some limit) None features h = absurd cc
made_by request S tables None None None (Err (adds.Limit name limit)) h = absurd cc
made_by request S tables None None None (Err adds.NoMemory) h = absurd cc
made_by request S tables None None None (Ok files) h = record { serves = refl; fits = refl; joins = refl; features_fit = search rules; is = refl }

made_of : (request : MakeRequest) (parts : TileParts) (T : TileTables)
    → (tables_answer request parts.schema (Some T) parts.plan.grid parts.tileref.grid).verdict ≡ Done
    → IsMade (cut_tables request parts T) request.out (plan_refusal T.tables parts.plan.grid (length parts.tileref.grid.rows))
    (first_limit_of (cut_tables request parts T)) (numbered_row (joins_of parts.schema.fcs)) (cut_features request parts)
    (tables_answer request parts.schema (Some T) parts.plan.grid parts.tileref.grid).made
made_of request parts T h =
    made_by request parts.schema (cut_tables request parts T) (plan_refusal T.tables parts.plan.grid (length parts.tileref.grid.rows))
    (first_limit_of (cut_tables request parts T)) (numbered_row (joins_of parts.schema.fcs)) (cut_features request parts) h

cut_of_tables : (files : Files) (request : MakeRequest) (parts : TileParts) (tile : Option TileTables)
    → (read_parts files request.lib request.cov 0).0 ≡ Ok parts
    → parts_finding request parts ≡ None → tile_at parts.coverage.coverage 0 ≡ tile
    → (tables_answer request parts.schema tile parts.plan.grid parts.tileref.grid).verdict ≡ Done
    → DoneIsCut files request (tables_answer request parts.schema tile parts.plan.grid parts.tileref.grid)
cut_of_tables files request parts None read agrees at h = absurd cc
cut_of_tables files request parts (Some T) read agrees at h =
    let m = made_of request parts T h in
    record {
      parts = parts;
      tables = T;
      cut = record { read = read; tables = at; agrees = agrees; serves = m.serves; fits = m.fits; joins = m.joins; features_fit = m.features_fit };
      made = m.is;
    }

cut_of_finding : (files : Files) (request : MakeRequest) (parts : TileParts) (first : Option Named)
    → (read_parts files request.lib request.cov 0).0 ≡ Ok parts
    → parts_finding request parts ≡ first → (tiling_answer request parts first).verdict ≡ Done
    → DoneIsCut files request (tiling_answer request parts first)
cut_of_finding files request parts (Some (name, d)) read found h = absurd cc
cut_of_finding files request parts None read found h = cut_of_tables files request parts (tile_at parts.coverage.coverage 0) read found refl h

cut_of_parts : (files : Files) (request : MakeRequest) (read : Result TileParts LoadStop) → (read_parts files request.lib request.cov 0).0 ≡ read
    → (parts_answer request read).verdict ≡ Done → DoneIsCut files request (parts_answer request read)
cut_of_parts files request (Err stop) read h = absurd (stop_refuses stop h)
cut_of_parts files request (Ok parts) read h = cut_of_finding files request parts (parts_finding request parts) read refl h

-- where the answer of `tile` is done, it is to make the files of a coverage that can be cut
pub done_is_cut : (files : Files) (request : MakeRequest) → (tile_answer files request).verdict ≡ Done → DoneIsCut files request (tile_answer files request)
done_is_cut files request h = cut_of_parts files request (read_parts files request.lib request.cov 0).0 refl h

-- the answer of `tile` is that to the words
tile_answers : (words : List (List ℕ)) (files : Files) (request : MakeRequest) (old : World) → command_of words ≡ Some (Tile request) → old.files ≡ Some files
    → IsAnswer (command_of words) old.files (tile_answer files request)
tile_answers words files request old e told =
    subst (λ (command : Option Command). IsAnswer command old.files (tile_answer files request)) (sym e)
    (subst (λ (t : Option Files). IsAnswer (Some (Tile request)) t (tile_answer files request)) (sym told) refl)

-- a run of `tile` that is done was over such a source
pub run_cuts : {Z : Type 0} → CutIsSource → RequestsHaveNames → (words : List (String Z)) (files : Files) (request : MakeRequest) (status : Status) (old new : World)
    → HoldsBytes files → command_of (map string_bytes words) ≡ Some (Tile request) → old.files ≡ Some files → status ≡ statuses.Done
    → ((answer : Answer) → IsAnswer (command_of (map string_bytes words)) old.files answer → Carries answer status old new) → HasTileSource files request
run_cuts only law words files request status old new bytes e told done carries =
    let answer : Answer = tile_answer files request in
    let c = subst (λ (s : Status). Carries answer s old new) done (carries answer (tile_answers (map string_bytes words) files request old e told)) in
    let d = done_is_cut files request (verdict_done answer.verdict c.0) in
    let names = command_names law (map string_bytes words) request (words_text words) e in
    (d.parts, d.tables, only files request d.parts d.tables bytes names d.cut)

-- what is so of all that is made of a source is so of what a run that is done leaves
run_makes : {Z : Type 0} (P : TileParts → TileTables → Type 0) → SourceIsCut → TilesAreMade → RequestsHaveNames
    → (words : List (String Z)) (before after : Files) (request : MakeRequest) (parts : TileParts) (T : TileTables) (status : Status) (old new : World)
    → (HasNames request → IsCutFrom before request parts T → with_all (cut_files request parts T) (Some before) ≡ Some after → P parts T)
    → command_of (map string_bytes words) ≡ Some (Tile request) → old.files ≡ Some before → new.files ≡ Some after → status ≡ statuses.Done
    → IsTileSource before request parts T
    → ((answer : Answer) → IsAnswer (command_of (map string_bytes words)) old.files answer → Carries answer status old new) → P parts T
run_makes P cuts makes law words before after request parts T status old new comes e told left done source carries =
    let answer : Answer = tile_answer before request in
    let cut = cuts before request parts T source in
    let c = subst (λ (s : Status). Carries answer s old new) done (carries answer (tile_answers (map string_bytes words) before request old e told)) in
    let names = command_names law (map string_bytes words) request (words_text words) e in
    let files : answer.made ≡ cut_files request parts T = ap (λ (a : Answer). a.made) (makes before request parts T cut) in
    let made : with_all (cut_files request parts T) (Some before) ≡ Some after =
    ap (λ (list : List File). with_all list (Some before)) (sym files) ∙ ap (with_all answer.made) (sym told) ∙ sym c.1 ∙ left in
    comes names cut made

-- it leaves the tiled library of the source
pub run_tiles : {Z : Type 0} → TilingsAgree → RestIsLacked → SourceIsCut → TilesAreMade → RequestsHaveNames
    → (words : List (String Z)) (before after : Files) (request : MakeRequest) (parts : TileParts) (T : TileTables) (status : Status) (old new : World)
    → HoldsBytes before → HoldsBytes after
    → command_of (map string_bytes words) ≡ Some (Tile request) → old.files ≡ Some before → new.files ≡ Some after → status ≡ statuses.Done
    → IsTileSource before request parts T → StandsAlone before request.out (cut_files request parts T)
    → LacksThemes after (within request.out request.cov) parts.schema
    → ((answer : Answer) → IsAnswer (command_of (map string_bytes words)) old.files answer → Carries answer status old new)
    → HoldsTiling after (made_request request) (primitives_of T.tables) (cut_plan parts T) (length parts.tileref.grid.rows) parts.schema
run_tiles agree rest cuts makes law words before after request parts T status old new bytes later e told left done source alone lacks carries =
    run_makes (λ parts T. HoldsTiling after (made_request request) (primitives_of T.tables) (cut_plan parts T) (length parts.tileref.grid.rows) parts.schema)
    cuts makes law words before after request parts T status old new
    (λ names cut made. agree before after request parts T bytes later names cut alone made
    (rest before after request parts T bytes names source cut alone made lacks)) e told left done source carries

-- over which `check` and `trace` are answered so
pub run_answers : {Z : Type 0} → TilingsAreAnswered → RestIsLacked → SourceIsCut → TilesAreMade → RequestsHaveNames
    → (words : List (String Z)) (before after : Files) (request : MakeRequest) (parts : TileParts) (T : TileTables) (status : Status) (old new : World)
    → HoldsBytes before → HoldsBytes after
    → command_of (map string_bytes words) ≡ Some (Tile request) → old.files ≡ Some before → new.files ≡ Some after → status ≡ statuses.Done
    → IsTileSource before request parts T → StandsAlone before request.out (cut_files request parts T)
    → LacksThemes after (within request.out request.cov) parts.schema
    → ((answer : Answer) → IsAnswer (command_of (map string_bytes words)) old.files answer → Carries answer status old new)
    → AnswersTiling after (made_request request) (primitives_of T.tables) (cut_plan parts T) (length parts.tileref.grid.rows) parts.schema
run_answers agree rest cuts makes law words before after request parts T status old new bytes later e told left done source alone lacks carries =
    run_makes (λ parts T. AnswersTiling after (made_request request) (primitives_of T.tables) (cut_plan parts T) (length parts.tileref.grid.rows) parts.schema)
    cuts makes law words before after request parts T status old new
    (λ names cut made. agree before after request parts T bytes later names cut alone made
    (rest before after request parts T bytes names source cut alone made lacks)) e told left done source carries
