-- The index that is made of a column agrees with it, where rows are asked for afterwards.
use Rattle.std.proofs.Common.{◌≡◌, ◌∙◌, ℕ, ◌≤◌, Bool, true, false, List, [], ◌∷◌, Option, Some, Ok, Err, length, refl, sym, ap, subst, le-leb}
use Rattle.std.specs.Prelude.{IfSome, nat_le, slice_get, if◌then◌else◌}
use Rattle.std.specs.Str.{bytes_eq}
use Rattle.std.specs.Cmp.Lexicographic.{bytes_decides}
use Rattle.vpf_base.specs.Limits.{most_bytes}
use Rattle.vpf_source.specs.declared.file.File.{File}
use Rattle.vpf_source.specs.Files.{Files}
use Rattle.vpf_source.specs.Loading.{load_answer}
use Rattle.vpf_source.specs.Making.{with_all}
use Rattle.vpf_head.specs.Head.{Col, place_of}
use Rattle.vpf_table.specs.Grid.{Grid}
use Rattle.vpf_table.specs.Opening.{opened_of}
use Rattle.vpf_table.specs.Reading.{table_of}
use Rattle.vpf_theme.specs.Agreeing.{ServesColumn}
use Rattle.vpf_replies.specs.declared.verdict.Verdict.{Verdict}
use Rattle.vpf_replies.specs.declared.verdict.Verdict.TheVariants as verdicts
use Rattle.vpf_replies.specs.Answer.{Answer}
use Rattle.vpf_replies.specs.Found.{missing_answer, on_loaded}
use Rattle.vpf_table_commands.specs.declared.indexing.IndexRequest.{IndexRequest}
use Rattle.vpf_table_commands.specs.declared.selecting.RowsRequest.{RowsRequest}
use Rattle.vpf_table_commands.specs.Index.{IndexesElsewhere, MadeIndexesServe, index_answer, index_bytes_answer}
use Rattle.vpf_table_commands.specs.Rows.{AgreesIfThere, IndexAgrees, NamedAgrees, theme_file}
use Rattle.vpf_run.specs.declared.command.Command.{Command}
use Rattle.vpf_run.specs.declared.command.Command.TheVariants.{Index}
use Rattle.vpf_run.specs.declared.status.Status.{Status}
use Rattle.vpf_run.specs.declared.status.Status.TheVariants as statuses
use Rattle.vpf_run.specs.Commands.{IsAnswer, command_of}
use Rattle.vpf_run.specs.Indexed.{AsksForIndexed}
use Rattle.vpf_run.specs.Run.{Carries, World}
use Rattle.vpf_run.specs.Statuses.{status_of}
use Rattle.vpf_run.proofs.Answering.{made_elsewhere}

swapped : (a b : List ℕ) (same : Bool) → bytes_eq b a ≡ same → bytes_eq a b ≡ false → bytes_eq b a ≡ false
swapped a b false e d = e
swapped a b true e d =
    let same : b ≡ a = (bytes_decides b a).0 e in
    absurd (cc (sym ((bytes_decides a b).1 (sym same)) ∙ d))

-- ---- the files afterwards

-- the files with one made
abbrev after : Files → List ℕ → List ℕ → Files
after files out made = λ other. if bytes_eq out other then Some made else files other

kept : (files : Files) (out made name : List ℕ) → bytes_eq out name ≡ false → after files out made name ≡ files name
kept files out made name e = rw e refl

made_there : (files : Files) (out made : List ℕ) → after files out made out ≡ Some made
made_there files out made = let e = (bytes_decides out out).1 refl in rw e refl

pub loaded_small : (bytes : List ℕ) → length bytes ≤ most_bytes → load_answer (Some bytes) most_bytes ≡ Ok (Some bytes)
loaded_small bytes h = let e = le-leb (length bytes) most_bytes h in rw e refl

same_loaded : (bytes other : List ℕ) (small : Bool) → (if small then Ok (Some bytes) else Err (length bytes)) ≡ Ok (Some other) → bytes ≡ other
same_loaded bytes other true e = cc e
same_loaded bytes other false e = absurd (cc e)

-- ---- the index agrees

-- what is opened is the table of the file
abbrev OpenedIsRead : Type 0
OpenedIsRead = (bytes : List ℕ) (index : Option (List ℕ)) (g : Grid) → opened_of bytes index ≡ Ok g → table_of bytes ≡ Ok g

same_grid : OpenedIsRead → (bytes : List ℕ) (index : Option (List ℕ)) (g h : Grid) → table_of bytes ≡ Ok g → opened_of bytes index ≡ Ok h → g ≡ h
same_grid opens bytes index g h e o = let d = opens bytes index h o in cc (sym e ∙ d)

same_place : (columns : List Col) (name : List ℕ) (a b : ℕ) → place_of name columns ≡ Some a → place_of name columns ≡ Some b → a ≡ b
same_place columns name a b e f = cc (sym e ∙ f)

same_column : (columns : List Col) (c : ℕ) (a b : Col) → slice_get columns c ≡ Some a → slice_get columns c ≡ Some b → a ≡ b
same_column columns c a b e f = cc (sym e ∙ f)

there_agrees : (files : Files) (out made : List ℕ) (g : Grid) (c : ℕ) → ServesColumn g c made → length made ≤ most_bytes → NamedAgrees (after files out made) g c (Some out)
there_agrees files out made g c serves small =
    let e : load_answer (after files out made out) most_bytes ≡ Ok (Some made) = ap (λ (file : Option (List ℕ)). load_answer file most_bytes) (made_there files out made) ∙ loaded_small made small in
    subst (AgreesIfThere g c) (sym e) serves

-- the column that is asked for is the one that was indexed
column_agrees : (files : Files) (request : IndexRequest) (asked : RowsRequest) (made : List ℕ) (a : AsksForIndexed files request asked) → ServesColumn a.grid a.place made → length made ≤ most_bytes
    → (g : Grid) (c : ℕ) (column : Col) → a.grid ≡ g → place_of asked.column g.head.columns ≡ Some c → slice_get g.head.columns c ≡ Some column → NamedAgrees (after files request.out made) g c (theme_file asked column)
column_agrees files request asked made a serves small g c column e at there =
    let found = subst (λ (x : Grid). place_of request.column x.head.columns ≡ Some a.place) e a.found in
    let place = same_place g.head.columns request.column a.place c found (subst (λ (name : List ℕ). place_of name g.head.columns ≡ Some c) a.same_column at) in
    let stands = subst (λ (x : Grid). slice_get x.head.columns a.place ≡ Some a.column) e a.there in
    let same = same_column g.head.columns c a.column column (subst (λ (k : ℕ). slice_get g.head.columns k ≡ Some a.column) place stands) there in
    let named = subst (λ (x : Col). theme_file asked x ≡ Some request.out) same a.named in
    let s = subst (λ (x : Grid). ServesColumn x c made) e (subst (λ (k : ℕ). ServesColumn a.grid k made) place serves) in
    subst (NamedAgrees (after files request.out made) g c) (sym named) (there_agrees files request.out made g c s small)

files_agree : OpenedIsRead → (files : Files) (request : IndexRequest) (asked : RowsRequest) (made : List ℕ) (a : AsksForIndexed files request asked) → bytes_eq request.out request.file ≡ false → ServesColumn a.grid a.place made → length made ≤ most_bytes → IndexAgrees (after files request.out made) asked
files_agree opens files request asked made a apart serves small bytes index g c column loaded opened at there =
    let held = ap (after files request.out made) a.same_file ∙ kept files request.out made request.file apart ∙ a.held in
    let e = subst (λ (file : Option (List ℕ)). load_answer file most_bytes ≡ Ok (Some bytes)) held loaded in
    let same = same_loaded a.bytes bytes (nat_le (length a.bytes) most_bytes) e in
    let grid = same_grid opens bytes index a.grid g (subst (λ (b : List ℕ). table_of b ≡ Ok a.grid) same a.read) opened in
    column_agrees files request asked made a serves small g c column grid at there

-- ---- the run

pub verdict_done : (verdict : Verdict) → statuses.Done ≡ status_of verdict → verdict ≡ verdicts.Done
verdict_done verdicts.Done e = refl
verdict_done verdicts.Refused e = absurd (cc e)
verdict_done verdicts.Usage e = absurd (cc e)
verdict_done verdicts.Limit e = absurd (cc e)

-- an answer that is done is that over the bytes of the file
over_bytes : (request : IndexRequest) (bytes : List ℕ) (answer : Answer) (small : Bool) → answer ≡ on_loaded (index_bytes_answer request) (missing_answer request.file) request.file (if small then Ok (Some bytes) else Err (length bytes)) → answer.verdict ≡ verdicts.Done → answer ≡ index_bytes_answer request bytes
over_bytes request bytes answer true h done = h
over_bytes request bytes answer false h done = absurd (cc (sym (ap (λ (a : Answer). a.verdict) h) ∙ done))

answer_over : (files : Files) (request : IndexRequest) (bytes : List ℕ) (answer : Answer) → files request.file ≡ Some bytes → answer ≡ index_answer files request → answer.verdict ≡ verdicts.Done → answer ≡ index_bytes_answer request bytes
answer_over files request bytes answer held h done =
    let g = subst (λ (file : Option (List ℕ)). answer ≡ on_loaded (index_bytes_answer request) (missing_answer request.file) request.file (load_answer file most_bytes)) held h in
    over_bytes request bytes answer (nat_le (length bytes) most_bytes) g done

made_agrees : OpenedIsRead → MadeIndexesServe → (files : Files) (request : IndexRequest) (asked : RowsRequest) (old new : World) → bytes_eq request.out request.file ≡ false → old.files ≡ Some files → AsksForIndexed files request asked
    → Carries (index_answer files request) statuses.Done old new → IfSome new.files (λ late. IndexAgrees late asked)
made_agrees opens law files request asked old new apart told a carries =
    let answer = index_answer files request in
    let done = verdict_done answer.verdict carries.0 in
    let over = answer_over files request a.bytes answer a.held refl done in
    let m = law request a.bytes a.grid a.place a.column a.are a.read a.found a.there (subst (λ (x : Answer). x.verdict ≡ verdicts.Done) over done) in
    let files_made : answer.made ≡ record { name = request.out; bytes = m.0 } ∷ [] = ap (λ (x : Answer). x.made) over ∙ m.1 in
    let e = carries.1 ∙ ap (λ (list : List File). with_all list old.files) files_made ∙ ap (with_all (record { name = request.out; bytes = m.0 } ∷ [])) told in
    subst (λ (late : Option Files). IfSome late (λ files. IndexAgrees files asked)) (sym e) (files_agree opens files request asked m.0 a apart m.2 m.3)

pub index_serves : OpenedIsRead → IndexesElsewhere → MadeIndexesServe → (words : List (List ℕ)) (files : Files) (request : IndexRequest) (asked : RowsRequest) (status : Status) (old new : World) → command_of words ≡ Some (Index request) → old.files ≡ Some files → AsksForIndexed files request asked → status ≡ statuses.Done
    → ((answer : Answer) → IsAnswer (command_of words) old.files answer → Carries answer status old new) → IfSome new.files (λ late. IndexAgrees late asked)
index_serves opens elsewhere law words files request asked status old new e told a done carries =
    let answer = index_answer files request in
    let is = subst (λ (command : Option Command). IsAnswer command old.files answer) (sym e) (subst (λ (t : Option Files). IsAnswer (Some (Index request)) t answer) (sym told) refl) in
    let c = subst (λ (s : Status). Carries answer s old new) done (carries answer is) in
    let apart = swapped request.file request.out (bytes_eq request.out request.file) refl (made_elsewhere elsewhere words request e) in
    made_agrees opens law files request asked old new apart told a c
