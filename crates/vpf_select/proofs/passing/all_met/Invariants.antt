use Rattle.std.proofs.Common.{◌≡◌, ◌++◌, length}
use Rattle.vpf_theme.specs.Entries.{AreRows}
use Rattle.vpf_select.specs.Inner.Passing.{first_unmet}
use Rattle.vpf_select.proofs.passing.all_met.Given as goal

abbrev pub invariant-loop-row : goal.invariant-loop-row
invariant-loop-row l = record {
  rows : AreRows (length l.met) l.row-iterator.left;
  found : l.found.items ++ l.row-iterator.left ≡ l.fn.hits.left;
  other : first_unmet l.met l.row-iterator.left ≡ first_unmet l.met l.fn.hits.left;
}
