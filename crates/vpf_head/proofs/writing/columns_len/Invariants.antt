use Rattle.std.proofs.Common.{◌≡◌, ◌≤◌, ◌+◌, ◌*◌, ◌^◌, drop, map, length}
use Rattle.indexmap.specs.IndexMap.{values}
use Rattle.vpf_head.specs.Canonical.{columns_text}
use Rattle.vpf_head.specs.Inner.Views.{col}
use Rattle.vpf_head.proofs.writing.columns_len.Given as goal

abbrev pub invariant-loop-c : goal.invariant-loop-c
invariant-loop-c l = record {
  done : l.len + length (columns_text (map col (drop l.c (values l.columns)))) ≡ length (columns_text (map col (values l.columns)));
  short : l.len ≤ l.c * 2 ^ 17;
}
