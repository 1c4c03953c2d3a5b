-- What is answered over a file, or in its place.
use Rattle.std.specs.Prelude.{◌≡◌, ℕ, List, Option, Some, None, Result, Ok, Err, codes}
use Rattle.vpf_base.specs.Limits.{most_bytes}
use Rattle.vpf_source.specs.Files.{Files}
use Rattle.vpf_source.specs.Loading.{load_answer}
use Rattle.vpf_replies.specs.Answer.{Answer, limited}
use Rattle.vpf_replies.specs.Refusals.{MissingFile, refusal_answer}
use Rattle.vpf_replies.specs.Texts.{limit_text}

-- a file that is absent
abbrev pub missing_answer : List ℕ → Answer
missing_answer name = refusal_answer (MissingFile name)

-- a file that is too large
abbrev pub large_answer : List ℕ → ℕ → Answer
large_answer name size = limited (limit_text (codes "file") name size)

-- what is answered over a file of this name that is loaded so: over its bytes, where it is absent, or where it is too large
abbrev pub on_loaded : (List ℕ → Answer) → Answer → List ℕ → Result (Option (List ℕ)) ℕ → Answer
on_loaded over absent name (Ok (Some bytes)) = over bytes
on_loaded over absent name (Ok None) = absent
on_loaded over absent name (Err size) = large_answer name size

-- the same of the file of this name, which may be absent
abbrev pub on_optional_file : (List ℕ → Answer) → Answer → List ℕ → Files → Answer
on_optional_file over absent name files = on_loaded over absent name (load_answer (files name) most_bytes)

-- .. and where it has to be there
abbrev pub on_required_file : (List ℕ → Answer) → List ℕ → Files → Answer
on_required_file over name files = on_optional_file over (missing_answer name) name files

-- the same, where what is answered over the bytes is a relation
abbrev pub IsLoadedAnswer : (List ℕ → Answer → Type 0) → List ℕ → Result (Option (List ℕ)) ℕ → Answer → Type 0
IsLoadedAnswer over name (Ok (Some bytes)) answer = over bytes answer
IsLoadedAnswer over name (Ok None) answer = answer ≡ missing_answer name
IsLoadedAnswer over name (Err size) answer = answer ≡ large_answer name size

abbrev pub IsRequiredAnswer : (List ℕ → Answer → Type 0) → List ℕ → Files → Answer → Type 0
IsRequiredAnswer over name files answer = IsLoadedAnswer over name (load_answer (files name) most_bytes) answer
