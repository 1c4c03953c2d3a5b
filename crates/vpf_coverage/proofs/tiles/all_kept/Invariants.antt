use Rattle.std.proofs.Common.{◌≡◌, ◌++◌}
use Rattle.std.specs.Vec.Iter.{into_iter_items}
use Rattle.vpf_coverage.proofs.tiles.all_kept.Given as goal

abbrev pub invariant-loop-tile : goal.invariant-loop-tile
invariant-loop-tile l = l.kept.items ++ into_iter_items l.tile-iterator ≡ l.fn.tiles.items
