-- What is kept on the way through the entries of a thematic index.
use Rattle.std.specs.Prelude.{◌≡◌, ℕ, ◌+◌, ◌<◌, Bool, false, List, length, slice_index_or}
use Rattle.vpf_theme.specs.Entries.{Entry}
use Rattle.vpf_theme.specs.Findings.{stands}

-- a mark for each of n rows says whether an entry lists it
abbrev pub HoldMarks : List Entry → ℕ → List Bool → Type 0
HoldMarks entries n marks = (length marks ≡ n) × ((k : ℕ) → k < n → slice_index_or marks k false ≡ stands entries (k + 1))
