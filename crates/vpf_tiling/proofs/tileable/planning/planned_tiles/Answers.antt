use Rattle.std.proofs.Common.{◌≡◌, ◌+◌, ◌∙◌, ap, arith, map}
use Rattle.std.specs.List.{range_with_len}
use Rattle.vpf_tiling.specs.Tileable.Planning.{plan_of, planned_tile}
use Rattle.vpf_tiling.proofs.tileable.PlannedLemmas.{each, more}
use Rattle.vpf_tiling.proofs.tileable.planning.planned_tiles.Goals as goal

pub loop-below-preserved : goal.loop-below-preserved
loop-below-preserved c =
    c.in_ok-push.ensures.items
    ∙ more c.args.named.now c.loop-below.tiles.items c.loop-below.below c.planned_tile.result c.loop-below.invariant
    (c.planned_tile.ensures ∙ ap (planned_tile (c.loop-below.below + 1)) c.tile_of.ensures)

pub returns-clause-each : goal.returns-clause-each
returns-clause-each c =
    let all : c.loop-below.below ≡ c.args.faces = omega (arith, c.loop-below.auto.below-end, c.loop-below-test.false) in
    each c.args.named.now c.args.faces c.loop-below.tiles.items c.requires
    (c.loop-below.invariant ∙ ap (λ n. map (plan_of c.args.named.now) (range_with_len 1 n)) all)
