use Rattle.std.proofs.Common.{length, refl, arith}
use Rattle.std.proofs.lemmas.List.{length-map}
use Rattle.vpf_prims.specs.Primitives.{own_edge, own_edges}
use Rattle.vpf_prims.specs.Edges.{IsEdge}
use Rattle.vpf_prims.specs.Reading.{primitives_of}
use Rattle.vpf_wing.proofs.RangeLemmas.{wings_in}
use Rattle.vpf_wing.proofs.tile_edges.next_local.Goals as goal

pub next_dart-requires : goal.next_dart-requires
next_dart-requires c =
    let count = length-map (primitives_of c.args.tile.now.tables).edges own_edge in
    let edge : IsEdge (length (own_edges (primitives_of c.args.tile.now.tables))) c.args.dart.edge = (c.requires.0, omega (arith, count, c.requires.1)) in
    λ _. ((refl, tt), (edge, wings_in (primitives_of c.args.tile.now.tables) c.names_its_own.ensures))
