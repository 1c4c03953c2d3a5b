use Rattle.std.proofs.Common.{◌≡◌, ℕ, ◌<◌, ◌≤◌, ◌++◌, ◌∙◌, true, sym, ap, subst, arith, List, length, map, get_or}
use Rattle.std.proofs.lemmas.List.{take_all}
use Rattle.std.proofs.lemmas.List.Elements.{All-push}
use Rattle.std.specs.Prelude.{All}
use Rattle.vpf_cutting.specs.Inner.Copies.Presence.{items_in}
use Rattle.vpf_cutting.specs.Inner.Cuts.{Cutting, plan_by}
use Rattle.vpf_prims.specs.Lists.{kth}
use Rattle.vpf_prims.specs.Numbering.{IsRowOf}
use Rattle.vpf_prims.specs.Primitives.{Primitives, absent_ring}
use Rattle.vpf_prims.specs.References.{id_of}
use Rattle.vpf_tiling.specs.Presence.{has_edge, holds_face}
use Rattle.vpf_tiling.specs.Tiles.{face_rings}
use Rattle.vpf_cut_rings.specs.Inner.Rings.{HasSmallNumbers, ring_of}
use Rattle.vpf_cut_rings.proofs.PlaceLemmas.{IsKeptRing, kept_ring, one_ring, ring_in, rings_kept}
use Rattle.vpf_cut_rings.specs.Inner.PlaceLaws.{made_more}
use Rattle.vpf_cut_rings.proofs.rings.CutRings.push_face_rings.Goals as goal

pub ring-start-requires : goal.ring-start-requires
ring-start-requires c =
    let h : holds_face c.self.inside.cut.now.source (plan_by c.self.inside.cut.now.plan) c.args.tile c.args.face ≡ true =
    subst (λ (k : Cutting). holds_face k.source (plan_by k.plan) c.args.tile c.args.face ≡ true) (sym c.self.view_is) c.requires.holds in
    let many : length c.in_tile-ring-items.result.now ≡ length (items_in c.self.inside.by_face c.args.face) = ap length c.in_tile-ring-items.ensures.items in
    let inside : c.loop-ring.ring-index < length (items_in c.self.inside.by_face c.args.face) = omega arith in
    let k : IsKeptRing c.self.inside.cut.now.source (plan_by c.self.inside.cut.now.plan) c.args.tile c.args.face (get_or (items_in c.self.inside.by_face c.args.face) c.loop-ring.ring-index 0) =
    kept_ring c.self.inside.cut.now.source c.plan_holds.ensures.tileable.well_formed c.self.inside.by_face c.self.invariant (plan_by c.self.inside.cut.now.plan) c.args.tile c.args.face h
    c.loop-ring.ring-index inside in
    subst (λ (p : Primitives). IsRowOf (length p.rings) (get_or c.in_tile-ring-items.result.now c.loop-ring.ring-index 0)) (sym c.source.ensures)
    (subst (λ (xs : List ℕ). IsRowOf (length c.self.inside.cut.now.source.rings) (get_or xs c.loop-ring.ring-index 0)) (sym c.in_tile-ring-items.ensures.items) k.row)

pub local_edge-edge-requires : goal.local_edge-edge-requires
local_edge-edge-requires c =
    let h : holds_face c.self.inside.cut.now.source (plan_by c.self.inside.cut.now.plan) c.args.tile c.args.face ≡ true =
    subst (λ (k : Cutting). holds_face k.source (plan_by k.plan) c.args.tile c.args.face ≡ true) (sym c.self.view_is) c.requires.holds in
    let many : length c.in_tile-ring-items.result.now ≡ length (items_in c.self.inside.by_face c.args.face) = ap length c.in_tile-ring-items.ensures.items in
    let inside : c.loop-ring.ring-index < length (items_in c.self.inside.by_face c.args.face) = omega arith in
    let k : IsKeptRing c.self.inside.cut.now.source (plan_by c.self.inside.cut.now.plan) c.args.tile c.args.face (get_or (items_in c.self.inside.by_face c.args.face) c.loop-ring.ring-index 0) =
    kept_ring c.self.inside.cut.now.source c.plan_holds.ensures.tileable.well_formed c.self.inside.by_face c.self.invariant (plan_by c.self.inside.cut.now.plan) c.args.tile c.args.face h
    c.loop-ring.ring-index inside in
    let start : c.ring-start.result.1
    ≡ id_of (kth c.self.inside.cut.now.source.rings (get_or (items_in c.self.inside.by_face c.args.face) c.loop-ring.ring-index 0) absent_ring).start_edge =
    c.ring-start.ensures.edge
    ∙ ap (λ (p : Primitives). id_of (kth p.rings (get_or c.in_tile-ring-items.result.now c.loop-ring.ring-index 0) absent_ring).start_edge) c.source.ensures
    ∙ ap (λ (xs : List ℕ). id_of (kth c.self.inside.cut.now.source.rings (get_or xs c.loop-ring.ring-index 0) absent_ring).start_edge) c.in_tile-ring-items.ensures.items in
    ap (has_edge c.self.inside.cut.now.source (plan_by c.self.inside.cut.now.plan) c.args.tile) start ∙ k.edge

pub loop-ring-preserved : goal.loop-ring-preserved
loop-ring-preserved c =
    let many : length c.in_tile-ring-items.result.now ≡ length (items_in c.self.inside.by_face c.args.face) = ap length c.in_tile-ring-items.ensures.items in
    let inside : c.loop-ring.ring-index < length (items_in c.self.inside.by_face c.args.face) = omega arith in
    let start : c.ring-start.result.1
    ≡ id_of (kth c.self.inside.cut.now.source.rings (get_or (items_in c.self.inside.by_face c.args.face) c.loop-ring.ring-index 0) absent_ring).start_edge =
    c.ring-start.ensures.edge
    ∙ ap (λ (p : Primitives). id_of (kth p.rings (get_or c.in_tile-ring-items.result.now c.loop-ring.ring-index 0) absent_ring).start_edge) c.source.ensures
    ∙ ap (λ (xs : List ℕ). id_of (kth c.self.inside.cut.now.source.rings (get_or xs c.loop-ring.ring-index 0) absent_ring).start_edge) c.in_tile-ring-items.ensures.items in
    record {
      made = made_more (ring_in c.self.inside.cut.now.source (plan_by c.self.inside.cut.now.plan) c.args.tile c.args.face) ring_of (items_in c.self.inside.by_face c.args.face)
          c.loop-ring.ring-index inside (map ring_of c.args.rings.now.items) c.loop-ring.rings.items c.push.new.self.items
          (record { face = c.local_face-number.result; edge = c.local_edge-edge.result }) c.in_ok-push.ensures.items
          (one_ring c.self.inside.cut.now.source (plan_by c.self.inside.cut.now.plan) c.args.tile c.args.face (get_or (items_in c.self.inside.by_face c.args.face) c.loop-ring.ring-index 0)
          c.local_face-number.result c.local_edge-edge.result c.ring-start.result.1 c.local_face-number.ensures.number c.local_edge-edge.ensures.number start)
          c.loop-ring.invariant.made;
      small = subst (All HasSmallNumbers) (sym c.in_ok-push.ensures.items)
          (All-push HasSmallNumbers c.loop-ring.rings.items (record { face = c.local_face-number.result; edge = c.local_edge-edge.result }) c.loop-ring.invariant.small
          (record { face = omega (arith, c.local_face-number.ensures.few); edge = omega (arith, c.local_edge-edge.ensures.few) }));
    }

pub returns-clause-rings : goal.returns-clause-rings
returns-clause-rings c =
    let h : holds_face c.self.inside.cut.now.source (plan_by c.self.inside.cut.now.plan) c.args.tile c.args.face ≡ true =
    subst (λ (k : Cutting). holds_face k.source (plan_by k.plan) c.args.tile c.args.face ≡ true) (sym c.self.view_is) c.requires.holds in
    let many : length c.in_tile-ring-items.result.now ≡ length (items_in c.self.inside.by_face c.args.face) = ap length c.in_tile-ring-items.ensures.items in
    let all : length (items_in c.self.inside.by_face c.args.face) ≤ c.loop-ring.ring-index = omega arith in
    subst (λ (k : Cutting). map ring_of c.loop-ring.rings.items ≡ map ring_of c.args.rings.now.items ++ face_rings k.source (plan_by k.plan) c.args.tile c.args.face) c.self.view_is
    (c.loop-ring.invariant.made
    ∙ ap (λ ks. map ring_of c.args.rings.now.items ++ map (ring_in c.self.inside.cut.now.source (plan_by c.self.inside.cut.now.plan) c.args.tile c.args.face) ks)
    (take_all c.loop-ring.ring-index (items_in c.self.inside.by_face c.args.face) all)
    ∙ ap (λ v. map ring_of c.args.rings.now.items ++ v)
    (sym (rings_kept c.self.inside.cut.now.source c.self.inside.by_face c.self.invariant (plan_by c.self.inside.cut.now.plan) c.args.tile c.args.face h)))
