use Rattle.std.proofs.Common.{◌<◌, ◌^◌, length, refl, ap, arith}
use Rattle.std.proofs.lemmas.List.{length-map}
use Rattle.vpf_prims.specs.Primitives.{own_edge, own_edges}
use Rattle.vpf_prims.specs.Reading.{primitives_of}
use Rattle.vpf_wing.proofs.RangeLemmas.{wings_in}
use Rattle.vpf_wing.proofs.checking.darts_of.Goals as goal

pub nexts-requires : goal.nexts-requires
nexts-requires c =
    let few : length (own_edges (primitives_of c.args.tile.now.tables)) < 2 ^ 24 =
    omega (arith, length-map (primitives_of c.args.tile.now.tables).edges own_edge, c.edges-count.ensures.value, c.edges-count.ensures.few) in
    λ _. rw c.new.ensures ((refl, tt), (few, wings_in (primitives_of c.args.tile.now.tables) c.names_its_own.ensures))

pub new-requires-2-clause-few : goal.new-requires-2-clause-few
new-requires-2-clause-few c =
    omega (arith, ap length c.in_ok-edges.ensures, length-map (primitives_of c.args.tile.now.tables).edges own_edge, c.edges-count.ensures.value, c.edges-count.ensures.few)
