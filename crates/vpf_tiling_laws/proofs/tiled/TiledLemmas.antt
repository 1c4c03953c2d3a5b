-- Each cycle of a tile of a tiled library has a ring; the tiled library agrees.
use Rattle.std.proofs.Common.{◌≡◌, ℕ, Bool, true, false, eqb, ◌&&◌, refl, sym, ap, ◌∙◌, subst, inl, inr, List, [], ◌∷◌, length, map}
use Rattle.std.specs.Prelude.{filter, flat_map}
use Rattle.std.specs.List.{list_any}
use Rattle.std.proofs.lemmas.Bool.{cases_Bool, and_parts, and_from, or_cases, or_left, or_right, eqb-true, eq-eqb}
use Rattle.vpf_darts.specs.Darts.{edge_in}
use Rattle.vpf_darts.specs.Inner.Laws.{RemovalLeavesAMap, DartLiesOnCycle}
use Rattle.vpf_prims.specs.Lists.{kth, first_item}
use Rattle.vpf_tiling.specs.Ranks.{up_to, is_least, leasts}
use Rattle.vpf_prims.specs.Primitives.{Primitives, RingPrimitive, untiled, absent_ring, ring_count}
use Rattle.vpf_prims.specs.References.{id_of}
use Rattle.vpf_wing.specs.Walks.{LeadsTo, least_after}
use Rattle.vpf_wing.specs.Links.{links_of, local_map}
use Rattle.vpf_tiling.specs.Presence.{untiled_links, next_of, face_of, holds_face, is_within, is_present, held_faces, local_edge, local_face, copy_in, tile_map}
use Rattle.vpf_tiling.specs.Tiles.{Ring, outer_darts, outer_rings, face_rings, tiled_rings, tiled_library, is_made}
use Rattle.vpf_prims.specs.Numbering.{IsRowOf}
use Rattle.vpf_wing.specs.WellFormed.{GoesRound}
use Rattle.vpf_tiling.specs.Plans.{IsTileable}
use Rattle.vpf_tiling_laws.specs.Inner.Tiled.Laws.{TiledAgrees}
use Rattle.vpf_tiling_laws.proofs.tiled.Parts.{OfTiled, CyclesRinged, TiledCycles}
use Rattle.vpf_wing.specs.Inner.DartLaws.{never_both, stands_in}
use Rattle.vpf_tiling_laws.proofs.tiled.Facts.{MapLaws}
use Rattle.vpf_tiling_laws.proofs.tiled.NextLemmas.{id_within, id_not, face_id}
use Rattle.vpf_tiling_laws.proofs.tiled.AcrossLemmas.{CopyHere, copy_here, has_nexts, nexts_apart, tiled_loops}
use Rattle.vpf_tiling_laws.proofs.tiled.RowLemmas.{made_from, tiled_across, tiled_is_library}
use Rattle.vpf_tiling_laws.proofs.tiled.RoundLemmas.{within_present, within_face, nexts_at, one_node, sides_meet}
use Rattle.vpf_tiling_laws.proofs.tiled.PlaceLemmas.{FirstRow, first_row, any_left, any_right, any_flat, any_item}
use Rattle.vpf_tiling_laws.proofs.tiled.ReferenceLemmas.{rings_many}
use Rattle.vpf_tiling_laws.proofs.tiled.TableLemmas.{HeldFace, held_is, no_one, all_numbered}
use Rattle.vpf_tiling_laws.proofs.tiled.RingLemmas.{starts_at, rings_start, rings_together, first_rings, first_edges}
use Rattle.vpf_tiling_laws.proofs.tiled.WalkLemmas.{steps_keep, least_on, least_is}
use Rattle.vpf_tiling_laws.proofs.tiled.InnerLemmas.{face_ring}
use Rattle.vpf_tiling_laws.proofs.tiled.OnceLemmas.{Outer, outer_next, outer_stands, steps_ahead, rings_once}
use Rattle.vpf_tiling.specs.Inner.PresenceLaws.{face_next, in_zero, present_has, source_next, stands_filter, up_stands}

pub any_both : {X Y : Type 0} → (q : Y → Bool) (g : X → Y) (p r : X → Bool) (xs : List X) → ((x : X) → r x ≡ true → p x ≡ true)
    → ((x : X) → r x ≡ true → q (g x) ≡ true) → list_any r xs ≡ true → list_any q (map g (filter p xs)) ≡ true
any_both q g p r [] h k s = absurd (never_both false s refl)
any_both q g p r (x ∷ xs) h k s = elim (or_cases (r x) (list_any r xs) s) [
  | inl a ↦ rw (h x a) (or_left (q (g x)) (list_any q (map g (filter p xs))) (k x a))
  | inr b ↦ (elim (cases_Bool (p x)) [
    | inl t ↦ rw t (or_right (q (g x)) (list_any q (map g (filter p xs))) (any_both q g p r xs h k b))
    | inr f ↦ rw f (any_both q g p r xs h k b)
  ])
]

pub any_map : {Y : Type 0} → (q : Y → Bool) (g : ℕ → Y) (x : ℕ) (xs : List ℕ) → stands_in x xs ≡ true → q (g x) ≡ true → list_any q (map g xs) ≡ true
any_map q g x [] s h = absurd (never_both false s refl)
any_map q g x (y ∷ ys) s h = elim (or_cases (eqb x y) (stands_in x ys) s) [
  | inl a ↦ or_left (q (g y)) (list_any q (map g ys)) (ap (λ z. q (g z)) (sym (eqb-true x y a)) ∙ h)
  | inr b ↦ or_right (q (g y)) (list_any q (map g ys)) (any_map q g x ys b h)
]

-- a ring of this face that starts at this edge
abbrev pub is_ring : ℕ → ℕ → Ring → Bool
is_ring f e r = eqb r.face f && eqb r.edge e

pub ring_is : (f e : ℕ) → is_ring f e (record { face = f; edge = e }) ≡ true
ring_is f e = and_from (eqb f f) (eqb e e) (eq-eqb f f refl) (eq-eqb e e refl)

-- where there is such a ring, it goes round the cycle of each dart that leads to a dart of it
pub ring_round : (c : Primitives) (plan : ℕ → ℕ) (tiles : ℕ) → IsTileable c plan tiles → (t : ℕ) → is_made c plan tiles t ≡ true → (z s : ℕ)
    → is_present c plan t s ≡ true → LeadsTo (local_map (links_of (tiled_library c plan tiles))).next (copy_in c plan t z) (copy_in c plan t s)
    → list_any (is_ring (face_id c plan t (face_of c s)) (local_edge c plan t (edge_in s))) (tiled_rings c plan t) ≡ true
    → (r : ℕ) × GoesRound (tiled_library c plan tiles) t r (copy_in c plan t z)
ring_round c plan tiles w t m z s h on any = (
    let q : Ring → Bool = is_ring (face_id c plan t (face_of c s)) (local_edge c plan t (edge_in s)) in
    let n : ℕ = first_item q (tiled_rings c plan t) in
    let f : FirstRow q (tiled_rings c plan t) no_one n = first_row q no_one (tiled_rings c plan t) any in
    let ring : Ring = kth (tiled_rings c plan t) n no_one in
    let p = and_parts (eqb ring.face (face_id c plan t (face_of c s))) (eqb ring.edge (local_edge c plan t (edge_in s))) f.passes in
    let row : IsRowOf (ring_count (tiled_library c plan tiles) t) n = subst (λ k. IsRowOf k n) (sym (rings_many c plan tiles t m)) f.row in
    (n, record { start = copy_in c plan t s; starts = starts_at c plan tiles w t n m row s h (sym (eqb-true _ _ p.1)) (sym (eqb-true _ _ p.0)); on = on }))

pub inner_ringed : MapLaws → (c : Primitives) (plan : ℕ → ℕ) (tiles : ℕ) → IsTileable c plan tiles → (t : ℕ) → is_made c plan tiles t ≡ true → (z : ℕ)
    → is_within c plan t z ≡ true → (r : ℕ) × GoesRound (tiled_library c plan tiles) t r (copy_in c plan t z)
inner_ringed law c plan tiles w t m z i = (
    let hz : (untiled_links c).has z ≡ true = present_has c plan t z (within_present c plan t z i) in
    let f : ℕ = face_of c z in
    let g : (r : ℕ) × GoesRound (untiled c) 0 r z = w.well_formed.cycles.cycle_ring z (in_zero c z hz) in
    let s : ℕ = g.1.start in
    let k : (is_within c plan t s ≡ true) × (face_of c s ≡ f) = steps_keep (next_of c) (λ v. (is_within c plan t v ≡ true) × (face_of c v ≡ f)) (λ v q. (
    let hv : (untiled_links c).has v ≡ true = present_has c plan t v (within_present c plan t v q.0) in
    (within_face c plan t v (next_of c v) q.0 (source_next c w.well_formed v hv).has (face_next c w.well_formed v hv), face_next c w.well_formed v hv ∙ q.1)))
    g.1.on.0 z s (i, refl) g.1.on.1 in
    let h : HeldFace c plan t f = held_is c plan t f (and_parts ((untiled_links c).has z) (holds_face c plan t f) i).1 in
    let ps : is_present c plan t s ≡ true = within_present c plan t s k.0 in
    let e : ℕ = edge_in s in
    let is : face_id c plan t (face_of c s) ≡ local_face c plan t f = ap (face_id c plan t) k.1 ∙ id_within c plan t f h.other h.planned in
    let mine : RingPrimitive → Bool = λ r. eqb (id_of r.face) f && eqb (id_of r.start_edge) e in
    let source : list_any mine c.rings ≡ true =
    any_item mine c.rings g.0 absent_ring g.1.starts.row (and_from (eqb (id_of (kth c.rings g.0 absent_ring).face) f)
    (eqb (id_of (kth c.rings g.0 absent_ring).start_edge) e) (eq-eqb _ f (sym g.1.starts.face ∙ k.1)) (eq-eqb _ e (sym g.1.starts.edge))) in
    let q : Ring → Bool = is_ring (local_face c plan t f) (local_edge c plan t e) in
    let here : list_any q (face_rings c plan t f) ≡ true =
    any_both q (face_ring c plan t f) (λ (r : RingPrimitive). eqb (id_of r.face) f) mine c.rings
    (λ r a. (and_parts (eqb (id_of r.face) f) (eqb (id_of r.start_edge) e) a).0) (λ r a. (
    let b : id_of r.start_edge ≡ e = eqb-true _ e (and_parts (eqb (id_of r.face) f) (eqb (id_of r.start_edge) e) a).1 in
    and_from (eqb (local_face c plan t f) (local_face c plan t f)) (eqb (local_edge c plan t (id_of r.start_edge)) (local_edge c plan t e)) (eq-eqb _ _ refl)
    (eq-eqb _ _ (ap (local_edge c plan t) b)))) source in
    let there : stands_in f (held_faces c plan t) ≡ true =
    stands_filter (holds_face c plan t) f (up_to (length c.faces)) h.holds (up_stands (length c.faces) f h.faces.from_one h.faces.to_last) in
    let all : list_any q (tiled_rings c plan t) ≡ true =
    any_right q (outer_rings c plan t) (flat_map (face_rings c plan t) (held_faces c plan t))
    (any_flat q (face_rings c plan t) f (held_faces c plan t) there here) in
    ring_round c plan tiles w t m z s ps (g.1.on.0, nexts_at law c plan tiles w t g.1.on.0 z s i g.1.on.1)
    (subst (λ n. list_any (is_ring n (local_edge c plan t e)) (tiled_rings c plan t) ≡ true) (sym is) all))

pub outer_ringed : MapLaws → (c : Primitives) (plan : ℕ → ℕ) (tiles : ℕ) → IsTileable c plan tiles → (t : ℕ) → is_made c plan tiles t ≡ true → (z : ℕ)
    → Outer c plan t z → (r : ℕ) × GoesRound (tiled_library c plan tiles) t r (copy_in c plan t z)
outer_ringed law c plan tiles w t m z o = (
    let f : ℕ → ℕ = (tile_map c plan t).next in
    let ys : List ℕ = outer_darts c plan t in
    let y : ℕ = least_after f (length ys) z in
    let on : LeadsTo f z y = least_on f (length ys) z in
    let oy : Outer c plan t y = steps_keep f (Outer c plan t) (outer_next law c plan tiles w t) on.0 z y o on.1 in
    let least : is_least f (length ys) y ≡ true = least_is f (Outer c plan t) ys (outer_next law c plan tiles w t) (outer_stands c plan t) z o in
    let there : stands_in y (leasts f ys) ≡ true = stands_filter (is_least f (length ys)) y ys least (outer_stands c plan t y oy) in
    let q : Ring → Bool = is_ring 1 (local_edge c plan t (edge_in y)) in
    let all : list_any q (tiled_rings c plan t) ≡ true =
    any_left q (outer_rings c plan t) (flat_map (face_rings c plan t) (held_faces c plan t))
    (any_map q (λ d. record { face = 1; edge = local_edge c plan t (edge_in d) }) y (leasts f ys) there
    (ring_is 1 (local_edge c plan t (edge_in y)))) in
    let is : face_id c plan t (face_of c y) ≡ 1 = id_not c plan w.well_formed t y (present_has c plan t y oy.present) oy.away in
    ring_round c plan tiles w t m z y oy.present (on.0, steps_ahead law c plan tiles w t on.0 z y o.present on.1)
    (subst (λ n. list_any (is_ring n (local_edge c plan t (edge_in y))) (tiled_rings c plan t) ≡ true) (sym is) all))

pub cycles_ringed : MapLaws → OfTiled CyclesRinged
cycles_ringed law c plan tiles w t h x hx = (
    let m : is_made c plan tiles t ≡ true = made_from c plan tiles t h in
    let k : CopyHere c plan t x = copy_here c plan tiles w t x hx in
    subst (λ v. (r : ℕ) × GoesRound (tiled_library c plan tiles) t r v) k.copy (elim (cases_Bool (is_within c plan t k.dart)) [
      | inl i ↦ inner_ringed law c plan tiles w t m k.dart i
      | inr n ↦ outer_ringed law c plan tiles w t m k.dart (record { present = k.present; away = n })
    ]))

pub tiled_cycles : MapLaws → RemovalLeavesAMap → DartLiesOnCycle → OfTiled TiledCycles
tiled_cycles law removal lies c plan tiles w t h = record {
  next = has_nexts law c plan tiles w t;
  next_apart = nexts_apart law removal c plan tiles w t;
  node = one_node law c plan tiles w t;
  sides = sides_meet law c plan tiles w t;
  ring_cycle = rings_start c plan tiles w t h;
  cycle_ring = cycles_ringed law c plan tiles w t h;
  ring_once = rings_once law removal lies c plan tiles w t h;
  together = rings_together c plan tiles w t h;
  ring_ptr = first_rings c plan tiles w t h;
  first_edge = first_edges c plan tiles w t h;
}

pub tiled_agrees : MapLaws → RemovalLeavesAMap → DartLiesOnCycle → TiledAgrees
tiled_agrees law removal lies c plan tiles w = record {
  library = tiled_is_library c plan tiles w;
  numbered = all_numbered law c plan tiles w;
  loops = tiled_loops c plan tiles w;
  cycles = tiled_cycles law removal lies c plan tiles w;
  across = λ e. tiled_across law c plan tiles w;
}
