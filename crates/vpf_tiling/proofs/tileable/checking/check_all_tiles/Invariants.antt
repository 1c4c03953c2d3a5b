use Rattle.std.proofs.Common.{◌≡◌, ◌+◌, ◌-◌}
use Rattle.vpf_findings.specs.Firsts.{first_over}
use Rattle.vpf_tiling.specs.Tileable.Refusals.{unknown_tile, unknown_tiles}
use Rattle.vpf_tiling.proofs.tileable.checking.check_all_tiles.Given as goal

abbrev pub invariant-loop-below : goal.invariant-loop-below
invariant-loop-below l = first_over (λ i. unknown_tile l.named l.tiles (i + 1)) l.below (l.faces - l.below) ≡ unknown_tiles l.named l.tiles l.faces
