use Rattle.std.proofs.Common.{◌≡◌, ◌<◌, ◌+◌, ℕ}
use Rattle.vpf_value.specs.Values.{view}
use Rattle.vpf_theme.specs.Entries.{value_of}
use Rattle.vpf_theme.proofs.searching.find_plain.Given as goal

abbrev pub invariant-loop-i : goal.invariant-loop-i
invariant-loop-i g l = record {
  before : (j : ℕ) → j < l.i → value_of l.layout l.bytes j ≡ view l.value → ⊥;
  cost : l.steps ≡ l.fn.steps + l.i;
}
