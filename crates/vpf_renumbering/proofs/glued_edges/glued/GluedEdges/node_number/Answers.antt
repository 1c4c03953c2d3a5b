use Rattle.std.proofs.Common.{◌<◌, List, length, map, ap, subst, ◌∙◌}
use Rattle.vpf_darts.specs.declared.darts.TileDart.{TileDart}
use Rattle.vpf_darts.specs.Darts.{tile_dart_code}
use Rattle.vpf_wing.specs.Inner.Kept.Kept.{place_among}
use Rattle.vpf_prims.specs.Libraries.{library_of}
use Rattle.vpf_renumbering.proofs.glued_edges.KeepLemmas.{kept_of, node_placed, node_row}
use Rattle.vpf_renumbering.proofs.glued_edges.glued.GluedEdges.node_number.Goals as goal

pub returns-clause-number : goal.returns-clause-number
returns-clause-number c =
    let k = kept_of c.self.inside c.args.self.now c.self.view_is c.self.invariant in
    node_placed (library_of c.args.self.now) c.self.inside k (tile_dart_code c.args.dart) c.place_of.result c.index.result.now c.requires
    (subst (λ (ds : List TileDart). c.place_of.result < length ds) c.deref.ensures.value c.place_of.ensures.inside)
    (c.place_of.ensures.place ∙ ap (λ ds. place_among (map tile_dart_code ds) (tile_dart_code c.args.dart)) c.deref.ensures.value) c.index.ensures

pub returns-clause-row : goal.returns-clause-row
returns-clause-row c =
    let k = kept_of c.self.inside c.args.self.now c.self.view_is c.self.invariant in
    node_row (library_of c.args.self.now) c.self.inside k (tile_dart_code c.args.dart) c.index.result.now c.requires (returns-clause-number c)
