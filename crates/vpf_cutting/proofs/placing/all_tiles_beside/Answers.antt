use Rattle.std.proofs.Common.{◌<◌, ◌≤◌, ap, ◌∙◌, arith, length, map, take, ◌++◌, ◌∷◌, []}
use Rattle.std.proofs.lemmas.List.{take_all}
use Rattle.vpf_prims.specs.Primitives.{absent_edge}
use Rattle.vpf_prims.specs.Reading.{primitives_of}
use Rattle.vpf_cutting.specs.Inner.Cuts.{plan_by}
use Rattle.vpf_cutting.specs.Inner.Sides.{tiles_beside}
use Rattle.vpf_cutting.proofs.PlacingLemmas.{map_more}
use Rattle.vpf_cutting.proofs.placing.all_tiles_beside.Goals as goal

pub loop-k-preserved : goal.loop-k-preserved
loop-k-preserved c =
    let below : c.loop-k.k < length ((primitives_of c.args.tile.now.tables).edges) = omega arith in
    c.in_ok-push.ensures.items
    ∙ ap (λ xs. xs ++ c.tiles_beside.result ∷ []) c.loop-k.invariant
    ∙ ap (λ x. map (tiles_beside (plan_by c.args.plan.now)) (take c.loop-k.k ((primitives_of c.args.tile.now.tables).edges)) ++ x ∷ []) c.tiles_beside.ensures
    ∙ map_more (tiles_beside (plan_by c.args.plan.now)) ((primitives_of c.args.tile.now.tables).edges) c.loop-k.k absent_edge below

pub returns : goal.returns
returns c =
    let all : length ((primitives_of c.args.tile.now.tables).edges) ≤ c.loop-k.k = omega arith in
    c.loop-k.invariant ∙ ap (map (tiles_beside (plan_by c.args.plan.now))) (take_all c.loop-k.k ((primitives_of c.args.tile.now.tables).edges) all)
