use Rattle.std.proofs.Common.{◌≡◌, ◌^◌, ◌<◌, ◌≤◌, ◌++◌, ◌∙◌, sym, ap, subst, arith, length, map}
use Rattle.std.proofs.lemmas.List.{length-map, take_all}
use Rattle.std.specs.Prelude.{flat_map}
use Rattle.vpf_cutting.specs.Inner.Cuts.{Cutting, plan_by}
use Rattle.vpf_prims.specs.Primitives.{Primitives}
use Rattle.vpf_tiling.specs.Presence.{held_faces}
use Rattle.vpf_tiling.specs.Tiles.{face_rings, outer_rings, tiled_rings}
use Rattle.vpf_cut_rings.specs.Inner.Rings.{ring_of}
use Rattle.vpf_cut_rings.proofs.FewLemmas.{rings_few}
use Rattle.vpf_cut_rings.proofs.rings.CutRings.of_tile.Goals as goal

pub returns-clause-few : goal.returns-clause-few
returns-clause-few c =
    let faces : length c.faces_in-face-items.result.now ≡ length (held_faces c.args.self.now.source (plan_by c.args.self.now.plan) c.args.tile) =
    subst (λ (k : Cutting). length c.faces_in-face-items.result.now ≡ length (held_faces k.source (plan_by k.plan) c.args.tile)) c.self.view_is
    (ap length c.faces_in-face-items.ensures.faces) in
    let all : length (held_faces c.args.self.now.source (plan_by c.args.self.now.plan) c.args.tile) ≤ c.loop-face.face-index = omega arith in
    let made : map ring_of c.loop-face.rings.items ≡ tiled_rings c.args.self.now.source (plan_by c.args.self.now.plan) c.args.tile =
    c.loop-face.invariant.made
    ∙ ap (λ fs. outer_rings c.args.self.now.source (plan_by c.args.self.now.plan) c.args.tile ++ flat_map (face_rings c.args.self.now.source (plan_by c.args.self.now.plan) c.args.tile) fs)
    (take_all c.loop-face.face-index (held_faces c.args.self.now.source (plan_by c.args.self.now.plan) c.args.tile) all) in
    let many : length c.loop-face.rings.items ≡ length (tiled_rings c.args.self.now.source (plan_by c.args.self.now.plan) c.args.tile) =
    sym (length-map c.loop-face.rings.items ring_of) ∙ ap length made in
    let most = rings_few c.args.self.now.source (plan_by c.args.self.now.plan) c.args.tile in
    let edges : length c.args.self.now.source.edges < 2 ^ 24 =
    subst (λ (k : Cutting). length k.source.edges < 2 ^ 24) c.self.view_is c.plan_holds.ensures.tileable.few in
    let rings : length c.args.self.now.source.rings < 2 ^ 24 =
    subst (λ (k : Cutting). length k.source.rings < 2 ^ 24) c.self.view_is
    (subst (λ (p : Primitives). length p.rings < 2 ^ 24) c.source.ensures (omega arith)) in
    omega arith
