-- A file that is loaded, or the reply in its place.
use Rattle.std.specs.Prelude.{◌≡◌, ℕ, List, length, Option, Some, Result, Ok, Err}
use Rattle.std.specs.Option.{option_map}
use Rattle.vpf_base.specs.Limits.{most_bytes}
use Rattle.vpf_source.specs.Loading.{load_answer}
use Rattle.vpf_replies.specs.declared.halting.Halt.{Halt}
use Rattle.vpf_replies.specs.Answer.{Answer}
use Rattle.vpf_replies.specs.Found.{missing_answer, on_loaded}
use Rattle.vpf_replies.specs.Halting.{Halts}

-- what was found is what was loaded, and a reply in its place is the answer, whatever is answered over the file and where it is absent;
-- `bytes` is what the value holds
abbrev pub IsOptional : {V : Type 0} → (V → List ℕ) → List ℕ → Result (Option (List ℕ)) ℕ → Result (Option V) Halt → Type 0
IsOptional bytes name loaded (Ok found) = loaded ≡ Ok (option_map bytes found)
IsOptional bytes name loaded (Err halt) = (over : List ℕ → Answer) (absent : Answer) → Halts (λ reply. reply ≡ on_loaded over absent name loaded) halt

-- the value is the file that was loaded, and a reply in its place is the answer, whatever is answered over the file
abbrev pub IsRequired : {V : Type 0} → (V → List ℕ) → List ℕ → Result (Option (List ℕ)) ℕ → Result V Halt → Type 0
IsRequired bytes name loaded (Ok value) = loaded ≡ Ok (Some (bytes value))
IsRequired bytes name loaded (Err halt) = (over : List ℕ → Answer) → Halts (λ reply. reply ≡ on_loaded over (missing_answer name) name loaded) halt

-- a size is that of the file, which is there and may be loaded, and a reply in its place is the answer, whatever is answered over the file
abbrev pub IsRequiredSize : List ℕ → Option (List ℕ) → Result ℕ Halt → Type 0
IsRequiredSize name file (Ok size) = (load_answer file most_bytes ≡ Ok file) × (option_map length file ≡ Some size)
IsRequiredSize name file (Err halt) = (over : List ℕ → Answer) → Halts (λ reply. reply ≡ on_loaded over (missing_answer name) name (load_answer file most_bytes)) halt
