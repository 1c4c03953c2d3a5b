use Rattle.std.proofs.Common.{map, ap, ◌∙◌}
use Rattle.vpf_darts.specs.Darts.{tile_dart_code}
use Rattle.vpf_wing.specs.Inner.Kept.Kept.{place_among}
use Rattle.vpf_prims.specs.Libraries.{library_of}
use Rattle.vpf_renumbering.proofs.glued_edges.KeepLemmas.{edge_placed, kept_of}
use Rattle.vpf_renumbering.proofs.glued_edges.glued.GluedEdges.edge_number.Goals as goal

pub returns-clause-number : goal.returns-clause-number
returns-clause-number c =
    let k = kept_of c.self.inside c.args.self.now c.self.view_is c.self.invariant in
    let x = tile_dart_code c.plus_dart-plus.result in
    edge_placed (library_of c.args.self.now) (tile_dart_code c.args.dart) x c.place_of.result c.plus_dart-plus.ensures.dart c.plus_dart-plus.ensures.there
    (c.place_of.ensures.place ∙ ap (λ ds. place_among (map tile_dart_code ds) x) c.deref.ensures.value ∙ ap (λ xs. place_among xs x) k.edges)
