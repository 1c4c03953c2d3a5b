-- What a tree holds, and what its calls answer where it tells that.
use Rattle.std.specs.Prelude.{◌≡◌, ◌<◌, ◌≤◌, ◌-◌, ℕ, List, [], length, take, drop, Option, None, Some, unwrap_or, IfOk, IfSome, Result, false, if◌then◌else◌}
use Rattle.std.specs.Option.{option_map}
use Rattle.std.specs.Str.{bytes_eq}
use Rattle.vpf_base.specs.Bytes.{IsBytes}

-- the bytes of each file by its name, and nothing where no file has the name
abbrev pub Files : Type 0
Files = List ℕ → Option (List ℕ)

-- what each of these files holds are bytes
abbrev pub HoldsBytes : Files → Type 0
HoldsBytes held = (name : List ℕ) → IfSome (held name) IsBytes

-- no file at all
abbrev pub no_files : Files
no_files name = None

-- a file's bytes; an absent file has none
abbrev pub bytes_of : Option (List ℕ) → List ℕ
bytes_of file = unwrap_or file []

-- the files with one made to hold these bytes, where the files are told
abbrev pub with_file : Option Files → List ℕ → List ℕ → Option Files
with_file None name bytes = None
with_file (Some files) name bytes = Some (λ other. if bytes_eq name other then Some bytes else files other)

-- `size` answers the file's length, and nothing exactly where the file is absent
abbrev pub TellsSize : {E : Type 0} → Option Files → List ℕ → Result (Option ℕ) E → Type 0
TellsSize told name result = IfSome told (λ files. IfOk result (λ size. size ≡ option_map length (files name)))

-- the first n bytes of the buffer are those of the file from an offset on; there is at least one where the file and the buffer have room for it
pub record ReadsFrom (file : List ℕ) (at n : ℕ) (buf : List ℕ) : Type 0 where
  pub within : n ≤ length file - at
  pub same : take n buf ≡ take n (drop at file)
  pub progress : at < length file → 0 < length buf → 0 < n

-- `read_at` read the named file from an offset on
abbrev pub ReadsFile : {E : Type 0} → Option Files → List ℕ → ℕ → Result ℕ E → List ℕ → Type 0
ReadsFile told name at result buf = IfSome told (λ files. IfOk result (λ n. ReadsFrom (bytes_of (files name)) at n buf))

-- all files but this one are as they were, and they are told as they were
abbrev pub SameElsewhere : Option Files → Option Files → List ℕ → Type 0
SameElsewhere None None name = Unit {0}
SameElsewhere None (Some new) name = ⊥
SameElsewhere (Some old) None name = ⊥
SameElsewhere (Some old) (Some new) name = (other : List ℕ) → bytes_eq name other ≡ false → new other ≡ old other
