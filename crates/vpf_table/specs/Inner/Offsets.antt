-- Where cells begin whose columns stand behind columns of one width alone.
use Rattle.std.specs.Prelude.{◌≡◌, ℕ, List, take, Some, slice_get}
use Rattle.vpf_head.specs.Head.{Col}
use Rattle.vpf_table.specs.Inner.Widths.{width_of}

-- each tells how many bytes the columns before its own have, which have one width
abbrev pub AreOffsets : List Col → List ℕ → Type 0
AreOffsets columns offsets = (c n : ℕ) → slice_get offsets c ≡ Some n → width_of (take c columns) ≡ Some n
