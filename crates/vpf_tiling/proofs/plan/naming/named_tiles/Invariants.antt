use Rattle.std.proofs.Common.{◌≡◌, length}
use Rattle.std.specs.Prelude.{All}
use Rattle.vpf_prims.specs.Columns.{role_at}
use Rattle.vpf_tiling.proofs.plan.NamedLemmas.{NotedSoFar}
use Rattle.vpf_tiling.proofs.plan.naming.named_tiles.Given as goal

abbrev pub invariant-loop-row : goal.invariant-loop-row
invariant-loop-row l = record {
  room : length l.named ≡ l.faces;
  noted : NotedSoFar (role_at l.columns.id) (role_at l.columns.tile) l.faces l.named l.row-iterator l.plan.rows;
  width : All (λ row. length row ≡ length l.plan.head.columns) l.row-iterator;
}
