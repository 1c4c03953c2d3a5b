use Rattle.std.proofs.Common.{◌≡◌, ℕ, ◌*◌, ◌^◌, ◌<◌, ◌≤◌, length}
use Rattle.vpf_prims.specs.Primitives.{edge_count}
use Rattle.vpf_follow.specs.Inner.Homes.{darts_to}
use Rattle.vpf_prims.specs.Libraries.{library_of}
use Rattle.vpf_follow.proofs.followed.count_darts.Given as goal

abbrev pub invariant-loop-t : goal.invariant-loop-t
invariant-loop-t l = record {
  count : l.darts ≡ length (darts_to (edge_count (library_of l.coverage)) l.t 0);
  room : l.darts ≤ l.t * 2 ^ 25;
  few : (s : ℕ) → s < l.t → edge_count (library_of l.coverage) s < 2 ^ 24;
}
