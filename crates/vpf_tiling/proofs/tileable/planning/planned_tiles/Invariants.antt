use Rattle.std.proofs.Common.{◌≡◌, map}
use Rattle.std.specs.List.{range_with_len}
use Rattle.vpf_tiling.specs.Tileable.Planning.{plan_of}
use Rattle.vpf_tiling.proofs.tileable.planning.planned_tiles.Given as goal

abbrev pub invariant-loop-below : goal.invariant-loop-below
invariant-loop-below l = l.tiles.items ≡ map (plan_of l.named) (range_with_len 1 l.below)
