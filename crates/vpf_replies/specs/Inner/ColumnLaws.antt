-- What is answered over the column of a name.
use Rattle.std.proofs.Common.{◌≡◌, ◌⊎◌, inl, inr, ℕ, ◌<◌, ◌≤◌, List, None, Some, length, get_or, arith}
use Rattle.std.specs.Prelude.{slice_get}
use Rattle.vpf_head.specs.Head.{Col}

pub column_or_past : (columns : List Col) (c : ℕ) → c < length columns → ((column : Col) × (c < length columns) × (slice_get columns c ≡ Some column) × (get_or columns c column ≡ column)) ⊎ ((length columns ≤ c) × (slice_get columns c ≡ None)) → (column : Col) × (slice_get columns c ≡ Some column)
column_or_past columns c h (inl w) = (w.0, w.2)
column_or_past columns c h (inr w) = absurd (omega arith)
