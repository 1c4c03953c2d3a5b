use Rattle.std.proofs.Common.{◌<◌, ◌^◌, ◌∙◌, ap, sym, subst, arith, length, map}
use Rattle.std.specs.Prelude.{All}
use Rattle.std.proofs.lemmas.List.{length-map}
use Rattle.vpf_cutting.specs.Inner.Copies.Placing.{AreNodes, has_end}
use Rattle.vpf_prims.specs.Reading.{primitives_of}
use Rattle.vpf_cutting.specs.Inner.Sides.{nodes_at}
use Rattle.vpf_cutting.proofs.PlacingLemmas.{copies_made, nodes_within}
use Rattle.vpf_cutting.proofs.placing.nodes_in_tiles.Goals as goal

pub of_nodes-requires-clause-edges : goal.of_nodes-requires-clause-edges
of_nodes-requires-clause-edges c =
    ap length (c.deref.ensures.value ∙ c.in_ok-ends.ensures) ∙ length-map (primitives_of c.args.tile.now.tables).edges nodes_at ∙ sym c.requires

pub of_nodes-requires-clause-within : goal.of_nodes-requires-clause-within
of_nodes-requires-clause-within c =
    subst (λ n. All (AreNodes n) c.deref.result.now) (sym c.nodes-nodes.ensures.value)
    (subst (All (AreNodes (length (primitives_of c.args.tile.now.tables).nodes))) (sym (c.deref.ensures.value ∙ c.in_ok-ends.ensures)) (nodes_within (primitives_of c.args.tile.now.tables) c.names_its_own.ensures))

pub returns : goal.returns
returns c =
    let few : length (primitives_of c.args.tile.now.tables).nodes < 2 ^ 24 = omega (arith, c.nodes-nodes.ensures.value, c.nodes-nodes.ensures.few) in
    copies_made c.of_nodes.result _ (length (primitives_of c.args.tile.now.tables).nodes) c.args.edges.now.tiles _ (has_end c.args.edges.now (map nodes_at (primitives_of c.args.tile.now.tables).edges))
    c.nodes-nodes.ensures.value few (ap (has_end c.args.edges.now) (c.deref.ensures.value ∙ c.in_ok-ends.ensures))
    c.of_nodes.ensures.copies c.of_nodes.ensures.has
