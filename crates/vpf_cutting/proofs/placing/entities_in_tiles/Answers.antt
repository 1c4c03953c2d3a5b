use Rattle.std.proofs.Common.{◌<◌, ◌≤◌, ◌^◌, ◌∙◌, ap, sym, subst, arith, length, Some}
use Rattle.std.specs.Prelude.{All}
use Rattle.std.proofs.lemmas.List.{length-map}
use Rattle.vpf_cutting.specs.Inner.Copies.Placing.{is_at}
use Rattle.vpf_prims.specs.Primitives.{entities_in}
use Rattle.vpf_prims.specs.Reading.{primitives_of}
use Rattle.vpf_tiling.specs.Presence.{holds_entity}
use Rattle.vpf_cutting.specs.Inner.Cuts.{plan_by}
use Rattle.vpf_cutting.specs.Inner.Sides.{tile_round}
use Rattle.vpf_cutting.proofs.PlacingLemmas.{copies_made, entities_at, places_within}
use Rattle.vpf_cutting.proofs.placing.entities_in_tiles.Goals as goal

pub of_places-requires-clause-few : goal.of_places-requires-clause-few
of_places-requires-clause-few c =
    let many = ap length (c.deref.ensures.value ∙ c.in_ok-places.ensures) ∙ length-map (entities_in (Some (primitives_of c.args.tile.now.tables))) (tile_round (plan_by c.args.plan.now)) in
    omega (arith, c.entities-entities.ensures.value, c.entities-entities.ensures.few)

pub of_places-requires-clause-within : goal.of_places-requires-clause-within
of_places-requires-clause-within c =
    subst (All (λ tile. tile ≤ c.args.tiles)) (sym (c.deref.ensures.value ∙ c.in_ok-places.ensures))
    (places_within (primitives_of c.args.tile.now.tables) (plan_by c.args.plan.now) c.args.tiles c.requires.tileable.plans c.requires.universe c.names_its_own.ensures)

pub returns : goal.returns
returns c =
    let is = c.deref.ensures.value ∙ c.in_ok-places.ensures in
    let few : length (entities_in (Some (primitives_of c.args.tile.now.tables))) < 2 ^ 24 = omega (arith, c.entities-entities.ensures.value, c.entities-entities.ensures.few) in
    copies_made c.of_places.result _ (length (entities_in (Some (primitives_of c.args.tile.now.tables)))) c.args.tiles _ (holds_entity (primitives_of c.args.tile.now.tables) (plan_by c.args.plan.now))
    (ap length is ∙ length-map (entities_in (Some (primitives_of c.args.tile.now.tables))) (tile_round (plan_by c.args.plan.now))) few
    (ap is_at is ∙ entities_at (primitives_of c.args.tile.now.tables) (plan_by c.args.plan.now) c.args.tiles c.requires.tileable.plans c.requires.universe c.names_its_own.ensures)
    c.of_places.ensures.copies c.of_places.ensures.has
