use Rattle.std.proofs.Common.{◌<◌, ◌≤◌, Some, ap, ◌∙◌, arith, length, map, take, ◌++◌, ◌∷◌, []}
use Rattle.std.proofs.lemmas.List.{take_all}
use Rattle.vpf_prims.specs.Primitives.{absent_entity, entities_in}
use Rattle.vpf_prims.specs.Reading.{primitives_of}
use Rattle.vpf_cutting.specs.Inner.Cuts.{plan_by}
use Rattle.vpf_cutting.specs.Inner.Sides.{tile_round}
use Rattle.vpf_cutting.proofs.PlacingLemmas.{map_more}
use Rattle.vpf_cutting.proofs.placing.all_tiles_round.Goals as goal

pub loop-k-preserved : goal.loop-k-preserved
loop-k-preserved c =
    let below : c.loop-k.k < length (entities_in (Some (primitives_of c.args.tile.now.tables))) = omega arith in
    c.in_ok-push.ensures.items
    ∙ ap (λ xs. xs ++ c.tile_round.result ∷ []) c.loop-k.invariant
    ∙ ap (λ x. map (tile_round (plan_by c.args.plan.now)) (take c.loop-k.k (entities_in (Some (primitives_of c.args.tile.now.tables)))) ++ x ∷ []) c.tile_round.ensures
    ∙ map_more (tile_round (plan_by c.args.plan.now)) (entities_in (Some (primitives_of c.args.tile.now.tables))) c.loop-k.k absent_entity below

pub returns : goal.returns
returns c =
    let all : length (entities_in (Some (primitives_of c.args.tile.now.tables))) ≤ c.loop-k.k = omega arith in
    c.loop-k.invariant ∙ ap (map (tile_round (plan_by c.args.plan.now))) (take_all c.loop-k.k (entities_in (Some (primitives_of c.args.tile.now.tables))) all)
