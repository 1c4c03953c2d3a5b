use Rattle.std.proofs.Common.{◌∙◌, ap, sym, subst, arith, length}
use Rattle.std.specs.Prelude.{All}
use Rattle.std.proofs.lemmas.List.{length-map}
use Rattle.vpf_cutting.specs.Inner.Copies.Placing.{AreTiles, is_beside}
use Rattle.vpf_prims.specs.Reading.{primitives_of}
use Rattle.vpf_tiling.specs.Presence.{has_edge}
use Rattle.vpf_cutting.specs.Inner.Cuts.{plan_by}
use Rattle.vpf_cutting.specs.Inner.Sides.{tiles_beside}
use Rattle.vpf_cutting.proofs.PlacingLemmas.{copies_made, edges_beside, tiles_within}
use Rattle.vpf_cutting.proofs.placing.edges_in_tiles.Goals as goal

pub of_edges-requires-clause-few : goal.of_edges-requires-clause-few
of_edges-requires-clause-few c =
    let few = c.requires.tileable.few in
    let many = ap length (c.deref.ensures.value ∙ c.in_ok-sides.ensures) ∙ length-map (primitives_of c.args.tile.now.tables).edges (tiles_beside (plan_by c.args.plan.now)) in
    omega arith

pub of_edges-requires-clause-within : goal.of_edges-requires-clause-within
of_edges-requires-clause-within c =
    subst (All (AreTiles c.args.tiles)) (sym (c.deref.ensures.value ∙ c.in_ok-sides.ensures))
    (tiles_within (primitives_of c.args.tile.now.tables) (plan_by c.args.plan.now) c.args.tiles c.requires.tileable.plans c.requires.universe c.names_its_own.ensures)

pub returns : goal.returns
returns c =
    let is = c.deref.ensures.value ∙ c.in_ok-sides.ensures in
    copies_made c.of_edges.result _ (length (primitives_of c.args.tile.now.tables).edges) c.args.tiles _ (has_edge (primitives_of c.args.tile.now.tables) (plan_by c.args.plan.now))
    (ap length is ∙ length-map (primitives_of c.args.tile.now.tables).edges (tiles_beside (plan_by c.args.plan.now))) c.requires.tileable.few
    (ap is_beside is ∙ edges_beside (primitives_of c.args.tile.now.tables) (plan_by c.args.plan.now) c.args.tiles c.requires.tileable c.requires.universe c.names_its_own.ensures)
    c.of_edges.ensures.copies c.of_edges.ensures.has
