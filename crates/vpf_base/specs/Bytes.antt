-- Lists of bytes.
use Rattle.std.specs.Prelude.{ℕ, List, ◌<◌, slice_index}

-- a list of bytes
abbrev pub IsBytes : List ℕ → Type 0
IsBytes bytes = (i : ℕ) → slice_index bytes i < 256

-- `\`
abbrev pub backslash : ℕ
backslash = 92
