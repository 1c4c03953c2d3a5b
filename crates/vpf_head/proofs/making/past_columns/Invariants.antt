use Rattle.std.proofs.Common.{◌≡◌, ◌≤◌, ◌+◌, drop, map, length}
use Rattle.indexmap.specs.IndexMap.{values}
use Rattle.vpf_head.specs.Canonical.{columns_text}
use Rattle.vpf_head.specs.Making.{past_columns}
use Rattle.vpf_head.specs.Inner.Views.{col}
use Rattle.vpf_head.proofs.making.past_columns.Given as goal

abbrev pub invariant-loop-c : goal.invariant-loop-c
invariant-loop-c l = record {
  same : past_columns l.at (map col (drop l.c l.columns)) (map col (drop l.c (values l.read))) ≡ past_columns l.fn.start (map col l.columns) (map col (values l.read));
  room : l.at + length (columns_text (map col (drop l.c l.columns))) ≡ l.fn.start + length (columns_text (map col l.columns));
  within : l.c ≤ length (values l.read);
}
