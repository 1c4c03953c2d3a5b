use Rattle.std.proofs.Common.{◌<◌, ◌^◌, arith, length}
use Rattle.vpf_prims.specs.Reading.{primitives_of}
use Rattle.vpf_tiling.specs.Presence.{holds_face}
use Rattle.vpf_cutting.specs.Inner.Cuts.{plan_by}
use Rattle.vpf_cutting.proofs.PlacingLemmas.{copies_made, faces_at, plan_all}
use Rattle.vpf_cutting.proofs.placing.faces_in_tiles.Goals as goal

pub of_places-requires-clause-within : goal.of_places-requires-clause-within
of_places-requires-clause-within c = plan_all (primitives_of c.args.tile.now.tables) c.args.plan.now c.args.tiles c.requires.tileable.plans c.requires.universe c.requires.faces

pub returns : goal.returns
returns c =
    let few : length (primitives_of c.args.tile.now.tables).faces < 2 ^ 24 = omega (arith, c.faces-faces.ensures.value, c.faces-faces.ensures.few) in
    copies_made c.of_places.result _ (length (primitives_of c.args.tile.now.tables).faces) c.args.tiles _ (holds_face (primitives_of c.args.tile.now.tables) (plan_by c.args.plan.now)) c.requires.faces few
    (faces_at (primitives_of c.args.tile.now.tables) c.args.plan.now c.args.tiles c.requires.tileable.plans c.requires.universe c.requires.faces)
    c.of_places.ensures.copies c.of_places.ensures.has
