use Rattle.std.proofs.Common.{◌≡◌, ◌++◌, take, drop, map}
use Rattle.std.specs.Prelude.{vec_len}
use Rattle.vpf_head.specs.Canonical.{columns_text}
use Rattle.vpf_head.specs.Inner.Views.{col}
use Rattle.vpf_head.proofs.writing.put_each.Given as goal

abbrev pub invariant-loop-column : goal.invariant-loop-column
invariant-loop-column l = record {
  done : l.fn.out.items ++ columns_text (map col l.columns) ≡ l.out.items ++ columns_text (map col (drop l.column-index l.columns));
  kept : take (vec_len l.fn.out) l.out.items ≡ l.fn.out.items;
}
