use Rattle.std.proofs.Common.{◌≡◌, map, take}
use Rattle.std.specs.List.{enumerate_from}
use Rattle.vpf_write.specs.Inner.Tallies.{Holds}
use Rattle.vpf_vectors.specs.Heads.{plan_head}
use Rattle.vpf_vectors.specs.Tables.{pair_cells}
use Rattle.vpf_glue.proofs.glued_tables.plan.write_plan.Given as goal

abbrev pub invariant-loop-k : goal.invariant-loop-k
invariant-loop-k l = record {
  head : l.writer.head ≡ plan_head;
  holds : Holds l.writer (map pair_cells (take l.k (enumerate_from 2 l.tiles)));
}
