-- What a load answers where the tree tells its files.
use Rattle.std.specs.Prelude.{◌≡◌, ℕ, List, length, take, min, Option, None, Some, IfOk, IfSome, nat_le, if◌then◌else◌, Result, Ok, Err}
use Rattle.std.specs.Option.{option_map}
use Rattle.vpf_base.specs.Results.{Meets}
use Rattle.vpf_source.specs.Files.{Files, bytes_of}
use Rattle.vpf_source.specs.declared.error.LoadError.{LoadError}
use Rattle.vpf_source.specs.declared.error.LoadError.TheVariants as errors

-- the whole file; nothing where it is absent; its size where that passes the budget
abbrev pub load_answer : Option (List ℕ) → ℕ → Result (Option (List ℕ)) ℕ
load_answer None budget = Ok None
load_answer (Some bytes) budget = if nat_le (length bytes) budget then Ok (Some bytes) else Err (length bytes)

-- the size that passes the budget; a fault and want of memory have none
abbrev pub size_in : LoadError → Option ℕ
size_in (errors.TooLarge size) = Some size
size_in errors.Failed = None
size_in errors.NoMemory = None

-- a load gave this answer, unless the tree failed or memory ran out; `bytes` is what the loaded value holds
abbrev pub LoadGives : {V : Type 0} → (V → List ℕ) → Result (Option V) LoadError → Result (Option (List ℕ)) ℕ → Type 0
LoadGives bytes result answer = Meets (option_map bytes) size_in result answer

-- the first n bytes of the buffer are the file's first, as many as file and buffer both have
pub record FillsFrom (file : List ℕ) (n : ℕ) (buf : List ℕ) : Type 0 where
  pub count : n ≡ min (length file) (length buf)
  pub same : take n buf ≡ take n file

-- the first n bytes of the buffer are the first that reading gives of the named file
abbrev pub FillsFront : {E : Type 0} → Option Files → List ℕ → Result ℕ E → List ℕ → Type 0
FillsFront reads name result buf = IfSome reads (λ files. IfOk result (λ n. take n buf ≡ take n (bytes_of (files name))))

-- all that was loaded are the first bytes that reading gives of the named file
abbrev pub LoadsFront : Option Files → List ℕ → List ℕ → Type 0
LoadsFront reads name bytes = IfSome reads (λ files. bytes ≡ take (length bytes) (bytes_of (files name)))

-- the buffer was filled from the named file
abbrev pub FillsFromFile : {E : Type 0} → Option Files → List ℕ → Result ℕ E → List ℕ → Type 0
FillsFromFile told name result buf = IfSome told (λ files. IfOk result (λ n. FillsFrom (bytes_of (files name)) n buf))
