use Rattle.std.proofs.Common.{◌≡◌, ◌++◌, take, drop, map}
use Rattle.std.specs.Prelude.{vec_len}
use Rattle.indexmap.specs.IndexMap.{values}
use Rattle.vpf_head.specs.Canonical.{columns_text}
use Rattle.vpf_head.specs.Inner.Views.{col}
use Rattle.vpf_head.proofs.writing.put_columns.Given as goal

abbrev pub invariant-loop-c : goal.invariant-loop-c
invariant-loop-c l = record {
  done : l.fn.out.items ++ columns_text (map col (values l.columns)) ≡ l.out.items ++ columns_text (map col (drop l.c (values l.columns)));
  kept : take (vec_len l.fn.out) l.out.items ≡ l.fn.out.items;
}
