use Rattle.std.proofs.Common.{◌≡◌, ◌+◌, ◌-◌, length}
use Rattle.vpf_findings.specs.Firsts.{first_over}
use Rattle.vpf_prims.specs.Reading.{primitives_of}
use Rattle.vpf_tiling.specs.Tileable.Refusals.{edge_outside, edges_outside}
use Rattle.vpf_tiling.proofs.tileable.checking.check_edges.Given as goal

abbrev pub invariant-loop-below : goal.invariant-loop-below
invariant-loop-below l = first_over (λ i. edge_outside (primitives_of l.tile.tables) (i + 1)) l.below (length (primitives_of l.tile.tables).edges - l.below) ≡ edges_outside (primitives_of l.tile.tables)
