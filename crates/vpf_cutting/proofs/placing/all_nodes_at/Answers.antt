use Rattle.std.proofs.Common.{◌<◌, ◌≤◌, ap, ◌∙◌, arith, length, map, take, ◌++◌, ◌∷◌, []}
use Rattle.std.proofs.lemmas.List.{take_all}
use Rattle.vpf_prims.specs.Primitives.{absent_edge}
use Rattle.vpf_prims.specs.Reading.{primitives_of}
use Rattle.vpf_cutting.specs.Inner.Sides.{nodes_at}
use Rattle.vpf_cutting.proofs.PlacingLemmas.{map_more}
use Rattle.vpf_cutting.proofs.placing.all_nodes_at.Goals as goal

pub loop-k-preserved : goal.loop-k-preserved
loop-k-preserved c =
    let below : c.loop-k.k < length ((primitives_of c.args.tile.now.tables).edges) = omega arith in
    c.in_ok-push.ensures.items
    ∙ ap (λ xs. xs ++ c.nodes_at.result ∷ []) c.loop-k.invariant
    ∙ ap (λ x. map (nodes_at) (take c.loop-k.k ((primitives_of c.args.tile.now.tables).edges)) ++ x ∷ []) c.nodes_at.ensures
    ∙ map_more (nodes_at) ((primitives_of c.args.tile.now.tables).edges) c.loop-k.k absent_edge below

pub returns : goal.returns
returns c =
    let all : length ((primitives_of c.args.tile.now.tables).edges) ≤ c.loop-k.k = omega arith in
    c.loop-k.invariant ∙ ap (map (nodes_at)) (take_all c.loop-k.k ((primitives_of c.args.tile.now.tables).edges) all)
