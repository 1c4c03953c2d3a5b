-- What a failed making leaves of a file in memory.
use Rattle.std.specs.Prelude.{◌≡◌, ◌⊎◌, ◌/◌, ℕ, List, length, take, Some}
use Rattle.vpf_source.specs.Files.{Files, with_file}

-- the first half of the bytes, rounded down
abbrev pub first_half : List ℕ → List ℕ
first_half bytes = take (length bytes / 2) bytes

-- the file holds these bytes, or all files are as they were
abbrev pub MayHold : Files → Files → List ℕ → List ℕ → Type 0
MayHold old new name bytes = (Some new ≡ with_file (Some old) name bytes) ⊎ (Some new ≡ Some old)
