-- The rows that have a value.
use Rattle.std.proofs.Common.{◌≡◌, ℕ, ◌<◌, List, length, Option, None, Some, Ok, Err, sym, ap, arith, inl, inr}
use Rattle.std.specs.Prelude.{slice_get}
use Rattle.std.proofs.lemmas.Option.{slice_get_cases}
use Rattle.vpf_value.specs.Values.{Value}
use Rattle.vpf_head.specs.Head.{Col}
use Rattle.vpf_table.specs.Grid.{Grid}
use Rattle.vpf_theme.specs.Agreeing.{scan_of}
use Rattle.vpf_theme.specs.Findings.{cells_of}
use Rattle.vpf_select.specs.Selecting.{selected}
use Rattle.vpf_select.specs.Words.{value_in}
use Rattle.vpf_calling.specs.Inner.Having.{having_at, word_value}

-- what a word says in a column that is there
pub word_said : (g : Grid) (c : ℕ) (word : List ℕ) (value : Option Value) → c < length g.head.columns → ((column : Col) → slice_get g.head.columns c ≡ Some column → value ≡ value_in column.kind column.count word)
    → word_value word (slice_get g.head.columns c) ≡ value
word_said g c word value inside h = elim (slice_get_cases g.head.columns c).1 [
  | inl w ↦ rw w.2 (sym (h w.0 w.2))
  | inr w ↦ absurd (omega (arith, w.0, inside))
]

-- what is selected without an index is the scan
pub rows_are : (g : Grid) (c : ℕ) (word : List ℕ) (v : Value) (rows : List ℕ) → word_value word (slice_get g.head.columns c) ≡ Some v → selected None v (cells_of g c) ≡ Ok rows → Some rows ≡ having_at g c word
unfolding selected
rows_are g c word v rows e s = let k : scan_of v (cells_of g c) ≡ rows = cc in rw e (ap (λ (x : List ℕ). Some x) (sym k))

-- .. and never refused
pub never_wrong : {X : Type 0} (v : Value) (cells : List Value) (row : ℕ) → selected None v cells ≡ Err row → X
unfolding selected
never_wrong v cells row s = absurd cc
