-- What is fed of a file, and what is said of it where it is refused.
use Rattle.std.proofs.Common.{◌≡◌, ℕ, ◌+◌, ◌≤◌, List, ◌++◌, length, take, drop, Option, None, Some, Result, Ok, Err, refl, sym, ap, subst, ◌∙◌, append_assoc}
use Rattle.std.proofs.Math.Seq.{take-add}
use Rattle.std.proofs.lemmas.List.{take-append-drop}
use Rattle.std.specs.Prelude.{IsErrOf}
use Rattle.std.specs.Option.{option_map}
use Rattle.vpf_base.specs.Limits.{most_bytes}
use Rattle.vpf_source.specs.Causes.{Rose, Stood}
use Rattle.vpf_source.specs.Files.{Files, bytes_of}
use Rattle.vpf_source.specs.Loading.{load_answer}
use Rattle.vpf_triplet.specs.declared.places.Place.{Place}
use Rattle.vpf_triplet.specs.declared.places.PlaceError.{PlaceError}
use Rattle.vpf_triplet.specs.declared.places.PlaceError.TheVariants as errors
use Rattle.vpf_triplet.specs.Places.{Answers, ForPlace}
use Rattle.vpf_table.specs.Grid.{Grid}
use Rattle.vpf_table.specs.Reading.{table_of}
use Rattle.vpf_feed.specs.declared.summary.Summary.{Summary}
use Rattle.vpf_feed.specs.Inner.Progress.{FeedProgress, summed}
use Rattle.vpf_feed.specs.Inner.Stages.{HoldsFed}
use Rattle.vpf_replies.specs.declared.halting.Halt.{Halt}
use Rattle.vpf_replies.specs.declared.halting.Halt.TheVariants as halts
use Rattle.vpf_replies.specs.Answer.{Answer, done}
use Rattle.vpf_replies.specs.Found.{missing_answer, on_loaded}
use Rattle.vpf_replies.specs.Halting.{Halts, TellsFault}
use Rattle.vpf_replies.specs.Tables.{on_table}
use Rattle.vpf_table_commands.specs.declared.accepting.TableRequest.{TableRequest}
use Rattle.vpf_table_commands.specs.Accept.{accepted_text, summed_answer, table_answer, table_bytes_answer}
use Rattle.vpf_table_commands.specs.Inner.Feeding.{HaltsSummed, IsHaltOf}

-- what is fed behind the first bytes of a file, where it is what the file has there
pub fed_more : (file piece : List ℕ) (at n : ℕ) (p : FeedProgress) → piece ≡ take n (drop at file) → HoldsFed p (take at file ++ piece) → HoldsFed p (take (at + n) file)
fed_more file piece at n p e h = subst (HoldsFed p) (ap (λ (x : List ℕ). take at file ++ x) e ∙ sym (take-add at n file)) h

-- the first bytes, the next, and the others are the file
pub parts_are : (file piece : List ℕ) (at n : ℕ) → piece ≡ take n (drop at file) → take at file ++ (piece ++ drop n (drop at file)) ≡ file
parts_are file piece at n e = ap (λ (x : List ℕ). take at file ++ (x ++ drop n (drop at file))) e ∙ ap (λ (x : List ℕ). take at file ++ x) (take-append-drop n (drop at file)) ∙ take-append-drop at file

-- a table that is refused halts the command with the answer to it
pub halts_so : (name file : List ℕ) (error : PlaceError) (halt : Halt) → ForPlace (λ place. summed (table_of file) ≡ Err place) error → IsHaltOf name error halt → HaltsSummed name file halt
halts_so name file (errors.Place place) (halts.Answered reply) e h = h ∙ ap (summed_answer name) (sym e)
halts_so name file (errors.Place place) (halts.Stop stop) e h = tt
halts_so name file errors.NoMemory halt e h = subst (HaltsSummed name file) (sym h) tt

-- .. and so where its end refuses it
pub halts_last : (name file : List ℕ) (error : PlaceError) (halt : Halt) → Answers {Y = Summary} (λ (s : Summary). s) (Err error) (summed (table_of file)) → IsHaltOf name error halt → HaltsSummed name file halt
halts_last name file (errors.Place place) halt e h = halts_so name file (errors.Place place) halt e h
halts_last name file errors.NoMemory halt e h = halts_so name file errors.NoMemory halt tt h

same_error : {V W : Type 0} (x y : Halt) → IsErrOf {T = V} (Err x) y → IsErrOf {T = W} (Err x) y
same_error x y e = let k : x ≡ y = cc in ap (λ (h : Halt). Err h) k

-- what a call tells of faults, after others that stood
pub faults_on : {V W : Type 0} (error fault : Halt) (before middle now : ℕ) → middle ≡ before → TellsFault {V = V} (Err error) fault middle now → TellsFault {V = W} (Err error) fault before now
faults_on {V = V} {W = W} error fault before middle now e t = record {
  rose = λ r. subst (λ (n : ℕ). Rose n now) e (t.rose (same_error {V = W} {W = V} error fault r));
  stood = λ r. subst (λ (n : ℕ). Stood n now) e (t.stood (λ q. r (same_error {V = V} {W = W} error fault q)));
  later = subst (λ (n : ℕ). n ≤ now) e t.later;
}

-- ---- the answer over a file of a size

there : (file : Option (List ℕ)) (size : ℕ) → option_map length file ≡ Some size → (length (bytes_of file) ≡ size) × (file ≡ Some (bytes_of file))
there None size e = absurd cc
there (Some bytes) size e = let k : length bytes ≡ size = cc in (k, refl)

pub size_is : (file : Option (List ℕ)) (size : ℕ) → option_map length file ≡ Some size → length (bytes_of file) ≡ size
size_is file size e = (there file size e).0

as_summed : (name : List ℕ) (r : Result Grid Place) → on_table (λ g. done (accepted_text g)) name r ≡ summed_answer name (summed r)
as_summed name (Ok g) = refl
as_summed name (Err place) = refl

pub answers_over : (files : Files) (request : TableRequest) (size : ℕ) → load_answer (files request.file) most_bytes ≡ Ok (files request.file) → option_map length (files request.file) ≡ Some size
    → table_answer files request ≡ summed_answer request.file (summed (table_of (bytes_of (files request.file))))
answers_over files request size loaded e =
    ap (on_loaded (table_bytes_answer request.file) (missing_answer request.file) request.file) (loaded ∙ ap (λ (x : Option (List ℕ)). Ok x) (there (files request.file) size e).1)
    ∙ as_summed request.file (table_of (bytes_of (files request.file)))

-- .. which a command comes to that is halted with it
pub halts_with : (name file : List ℕ) (answer : Answer) (halt : Halt) → answer ≡ summed_answer name (summed (table_of file)) → HaltsSummed name file halt → Halts (λ reply. reply ≡ answer) halt
halts_with name file answer halt e h = subst (λ (a : Answer). Halts (λ reply. reply ≡ a) halt) (sym e) h
