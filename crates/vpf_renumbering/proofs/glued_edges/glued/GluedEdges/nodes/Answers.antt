use Rattle.std.proofs.Common.{◌≡◌, List, true, map, sym, ap, ◌∙◌, subst}
use Rattle.std.specs.Prelude.{All}
use Rattle.vpf_darts.specs.declared.darts.TileDart.{TileDart}
use Rattle.vpf_darts.specs.Darts.{tile_dart_code}
use Rattle.vpf_prims.specs.Libraries.{library_of}
use Rattle.vpf_wing.specs.Links.{links_of}
use Rattle.vpf_follow.specs.Following.{is_home}
use Rattle.vpf_tiling_laws.specs.Gluing.Glued.{first_darts}
use Rattle.vpf_tiling_laws.specs.Gluing.Whole.{whole_of}
use Rattle.vpf_renumbering.proofs.glued_edges.KeepLemmas.{kept_of}
use Rattle.vpf_renumbering.proofs.glued_edges.PlusLemmas.{all_home, first_home}
use Rattle.vpf_renumbering.proofs.glued_edges.glued.GluedEdges.nodes.Goals as goal

pub returns-clause-nodes : goal.returns-clause-nodes
returns-clause-nodes c =
    ap (map tile_dart_code) c.deref.ensures.value ∙ (kept_of c.self.inside c.args.self.now c.self.view_is c.self.invariant).nodes.firsts

pub returns-clause-each : goal.returns-clause-each
returns-clause-each c =
    let L = library_of c.args.self.now in
    let k = kept_of c.self.inside c.args.self.now c.self.view_is c.self.invariant in
    subst (λ (ds : List TileDart). All (λ (d : TileDart). is_home (links_of (library_of c.args.self.now)) (tile_dart_code d) ≡ true) ds) (sym c.deref.ensures.value)
    (all_home L c.self.inside.nodes.firsts.items (first_darts (whole_of L)) k.nodes.firsts (first_home L c.self.inside.darts.items k.darts))
