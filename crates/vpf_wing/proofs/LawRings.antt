-- The cycles of rings, by places and by the numbers of darts.
use Rattle.std.proofs.Common.{◌≡◌, ℕ, ◌+◌, ◌-◌, ◌*◌, ◌/◌, ◌%◌, ◌<◌, ◌≤◌, ◌⊎◌, Bool, true, false, eqb, Option, Some, None, List, length, map, refl, sym, ap, subst, ◌∙◌, inl, inr, arith}
use Rattle.std.specs.Prelude.{is_some}
use Rattle.std.specs.Option.{option_map, unwrap_or}
use Rattle.std.proofs.lemmas.Bool.{cases_eq, eqb-true}
use Rattle.std.proofs.lemmas.List.{length-map}
use Rattle.vpf_darts.specs.Darts.{edge_in}
use Rattle.vpf_findings.specs.Firsts.{◌or◌, where_holds}
use Rattle.vpf_prims.specs.declared.rows.Edge.{Edge}
use Rattle.vpf_prims.specs.Lists.{kth}
use Rattle.vpf_prims.specs.Primitives.{Library, absent_ring, tile_rings, edge_count, ring_count}
use Rattle.vpf_prims.specs.Numbering.{IsRowOf, IsNumbered}
use Rattle.vpf_wing.specs.declared.rings.Ring.{Ring}
use Rattle.vpf_wing.specs.Nexts.{edge_at, dart_at, face, MakeMap}
use Rattle.vpf_wing.specs.Places.{next_place, least_place, flip_place}
use Rattle.vpf_wing.specs.Walks.{LeadsTo}
use Rattle.vpf_wing.specs.CycleLines.{own_ring, faces_of_rings, ring_dart, ring_cycle}
use Rattle.vpf_wing.specs.Links.{links_of, local_map}
use Rattle.vpf_wing.specs.WellFormed.{StartsRing, GoesRound}
use Rattle.vpf_wing.proofs.LawFacts.{none_some, some_same, some_or_none, same}
use Rattle.vpf_wing.proofs.LawFirsts.{item-map}
use Rattle.vpf_wing.proofs.LawDarts.{AtPlace, number_at, number-edge, at_place, number_dart}
use Rattle.vpf_wing.proofs.LawLinks.{rows_of, rows_count, number_face, flip_dart}
use Rattle.vpf_wing.proofs.LawOrbits.{least_below}
use Rattle.vpf_wing.proofs.LawPlaces.{IsTile, below_rows, stays_below, least_by, least_leads}
use Rattle.vpf_wing.proofs.LawNumbers.{plain_row}
use Rattle.vpf_wing.proofs.LawLoops.{faces_by}

-- the rings of a tile by their own numbers
abbrev pub rings_of : Library → ℕ → List Ring
rings_of L t = map own_ring (tile_rings L t)

abbrev pub ring_at : Library → ℕ → ℕ → Ring
ring_at L t r = own_ring (kth (tile_rings L t) r absent_ring)

abbrev pub cycles_of : Library → ℕ → List ℕ
cycles_of L t = map (ring_cycle (rows_of L t)) (rings_of L t)

pub rings_count : (L : Library) (t : ℕ) → length (rings_of L t) ≡ ring_count L t
rings_count L t = length-map (tile_rings L t) own_ring

pub faces_count : (L : Library) (t : ℕ) → length (faces_of_rings (rings_of L t)) ≡ ring_count L t
faces_count L t = length-map (rings_of L t) (λ (ring : Ring). ring.face) ∙ rings_count L t

pub cycles_count : (L : Library) (t : ℕ) → length (cycles_of L t) ≡ ring_count L t
cycles_count L t = length-map (rings_of L t) (ring_cycle (rows_of L t)) ∙ rings_count L t

pub ring_of_row : (L : Library) (t r : ℕ) → kth (rings_of L t) r (own_ring absent_ring) ≡ ring_at L t r
ring_of_row L t r = item-map own_ring (tile_rings L t) r absent_ring

pub face_of_row : (L : Library) (t r : ℕ) → kth (faces_of_rings (rings_of L t)) r 0 ≡ (ring_at L t r).face
face_of_row L t r = item-map (λ (ring : Ring). ring.face) (rings_of L t) r (own_ring absent_ring) ∙ ap (λ (ring : Ring). ring.face) (ring_of_row L t r)

-- what stands in place of the cycle of a ring that there is not
abbrev pub no_cycle : Library → ℕ → ℕ
no_cycle L t = ring_cycle (rows_of L t) (own_ring absent_ring)

pub cycle_of_row : (L : Library) (t r : ℕ) → kth (cycles_of L t) r (no_cycle L t) ≡ ring_cycle (rows_of L t) (ring_at L t r)
cycle_of_row L t r = item-map (ring_cycle (rows_of L t)) (rings_of L t) r (own_ring absent_ring) ∙ ap (ring_cycle (rows_of L t)) (ring_of_row L t r)

-- the dart at a place is one of a ring's start edge, and has the ring's face
pub record StartsAt (edges : List Edge) (ring : Ring) (p : ℕ) : Type 0 where
  pub edge : p / 2 + 1 ≡ ring.start_edge
  pub side : face edges (dart_at p) ≡ ring.face

dart_by : (a b : Bool) (x y p : ℕ) → (where_holds a x or where_holds b y) ≡ Some p → ((a ≡ true) × (x ≡ p)) ⊎ ((b ≡ true) × (y ≡ p))
dart_by true b x y p h = inl (refl, some_same x p h)
dart_by false true x y p h = inr (refl, some_same y p h)
dart_by false false x y p h = absurd (none_some p h)

dart_from : (a b : Bool) (x y : ℕ) → (a ≡ true) ⊎ (b ≡ true) → (p : ℕ) × ((where_holds a x or where_holds b y) ≡ Some p)
dart_from true b x y h = (x, refl)
dart_from false true x y h = (y, refl)
dart_from false false x y (inl h) = absurd cc
dart_from false false x y (inr h) = absurd cc

pub ring_dart_is : (edges : List Edge) (ring : Ring) (p : ℕ) → 1 ≤ ring.start_edge → ring_dart edges ring ≡ Some p → StartsAt edges ring p
unfolding ring_dart
ring_dart_is edges ring p low h =
    let plus : ℕ = 2 * (ring.start_edge - 1) in
    elim (dart_by (eqb (face edges (dart_at plus)) ring.face)
    (eqb (face edges (dart_at (plus + 1))) ring.face) plus (plus + 1) p h) [
      | inl a ↦ (let e = a.1 in record { edge = omega arith; side = subst (λ q. face edges (dart_at q) ≡ ring.face) a.1 (eqb-true _ _ a.0) })
      | inr b ↦ (let e = b.1 in record { edge = omega arith; side = subst (λ q. face edges (dart_at q) ≡ ring.face) b.1 (eqb-true _ _ b.0) })
    ]

pub ring_dart_some : (edges : List Edge) (ring : Ring) (q : ℕ) → StartsAt edges ring q → (p : ℕ) × (ring_dart edges ring ≡ Some p)
unfolding ring_dart
ring_dart_some edges ring q s =
    let plus : ℕ = 2 * (ring.start_edge - 1) in
    let e = s.edge in
    let one : (eqb (face edges (dart_at plus)) ring.face ≡ true) ⊎ (eqb (face edges (dart_at (plus + 1))) ring.face ≡ true) =
    elim (cases_eq (q % 2) 0) [
      | inl even ↦ (let at : q ≡ plus = omega arith in inl (same _ _ (subst (λ v. face edges (dart_at v) ≡ ring.face) at s.side)))
      | inr odd ↦ (let at : q ≡ plus + 1 = omega arith in inr (same _ _ (subst (λ v. face edges (dart_at v) ≡ ring.face) at s.side)))
    ] in
    dart_from (eqb (face edges (dart_at plus)) ring.face)
    (eqb (face edges (dart_at (plus + 1))) ring.face) plus (plus + 1) one

-- the darts of an edge with one face on both sides have one least place
abbrev pub PairsTogether : Library → ℕ → Type 0
PairsTogether L t = (p : ℕ) → p < 2 * edge_count L t → (edge_at (rows_of L t) (p / 2 + 1)).right_face ≡ (edge_at (rows_of L t) (p / 2 + 1)).left_face
    → least_place (rows_of L t) p ≡ least_place (rows_of L t) (flip_place p)

-- the darts where a ring may start are on one cycle
starts_together : (L : Library) (t : ℕ) (ring : Ring) (p q : ℕ) → PairsTogether L t → p < 2 * edge_count L t → StartsAt (rows_of L t) ring p
    → StartsAt (rows_of L t) ring q
    → least_place (rows_of L t) p ≡ least_place (rows_of L t) q
starts_together L t ring p q pairs h s z = elim (cases_eq p q) [
  | inl e ↦ ap (least_place (rows_of L t)) e
  | inr ne ↦ (
      let a = s.edge in
      let b = z.edge in
      let at : q ≡ flip_place p = omega arith in
      let sides : face (rows_of L t) (dart_at p) ≡ face (rows_of L t) (dart_at (flip_place p)) =
      s.side ∙ sym z.side ∙ ap (λ v. face (rows_of L t) (dart_at v)) at in
      let one = faces_by (rows_of L t) (p / 2 + 1) (eqb (p % 2) 1) (sides ∙ ap (face (rows_of L t)) (flip_dart p)) in
      pairs p h one ∙ ap (least_place (rows_of L t)) (sym at))
]

cycle_by : (edges : List Edge) (ring : Ring) (o : Option ℕ) → ring_dart edges ring ≡ o
    → ring_cycle edges ring ≡ unwrap_or (option_map (least_place edges) o) (2 * length edges)
unfolding ring_cycle
cycle_by edges ring o e = ap (λ v. unwrap_or (option_map (least_place edges) v) (2 * length edges)) e

-- the cycle of a ring is that of each dart where it may start
pub ring_cycle_is : (L : Library) (t : ℕ) (ring : Ring) (q : ℕ) → PairsTogether L t → q < 2 * edge_count L t → StartsAt (rows_of L t) ring q
    → ring_cycle (rows_of L t) ring ≡ least_place (rows_of L t) q
ring_cycle_is L t ring q pairs h s =
    let p = ring_dart_some (rows_of L t) ring q s in
    let a = s.edge in
    let z : StartsAt (rows_of L t) ring p.0 = ring_dart_is (rows_of L t) ring p.0 (omega arith) p.1 in
    cycle_by (rows_of L t) ring (Some p.0) p.1 ∙ sym (starts_together L t ring q p.0 pairs h s z)

-- a dart where a ring starts, on a cycle
pub record StartsOn (L : Library) (t : ℕ) (ring : Ring) (m : ℕ) : Type 0 where
  pub place : ℕ
  pub below : place < 2 * edge_count L t
  pub starts : StartsAt (rows_of L t) ring place
  pub least : least_place (rows_of L t) place ≡ m

start_below : (L : Library) (t : ℕ) (ring : Ring) (p : ℕ) → IsRowOf (edge_count L t) ring.start_edge → StartsAt (rows_of L t) ring p → p < 2 * edge_count L t
start_below L t ring p row s = let a = s.edge in let b = row.1 in omega arith

pub ring_starts_on : (L : Library) (t : ℕ) (ring : Ring) (m : ℕ) → IsRowOf (edge_count L t) ring.start_edge → m < 2 * edge_count L t
    → ring_cycle (rows_of L t) ring ≡ m → StartsOn L t ring m
ring_starts_on L t ring m row h e = elim (some_or_none (ring_dart (rows_of L t) ring)) [
  | inl p ↦ (
      let s : StartsAt (rows_of L t) ring p.0 = ring_dart_is (rows_of L t) ring p.0 row.0 p.1 in
      record { place = p.0; below = start_below L t ring p.0 row s; starts = s; least = sym (cycle_by (rows_of L t) ring (Some p.0) p.1) ∙ e })
  | inr none ↦ (
      let z : 2 * length (rows_of L t) ≡ m = sym (cycle_by (rows_of L t) ring None none) ∙ e in
      absurd (omega (arith, rows_count L t)))
]

some_of : (o : Option ℕ) → is_some o ≡ true → (p : ℕ) × (o ≡ Some p)
some_of None h = absurd cc
some_of (Some p) h = (p, refl)

pub ring_some_start : (L : Library) (t : ℕ) (ring : Ring) → IsRowOf (edge_count L t) ring.start_edge → is_some (ring_dart (rows_of L t) ring) ≡ true
    → (p : ℕ) × (p < 2 * edge_count L t) × StartsAt (rows_of L t) ring p
ring_some_start L t ring row h =
    let p = some_of (ring_dart (rows_of L t) ring) h in
    let s : StartsAt (rows_of L t) ring p.0 = ring_dart_is (rows_of L t) ring p.0 row.0 p.1 in
    (p.0, start_below L t ring p.0 row s, s)

pub ring_start_some : (L : Library) (t : ℕ) (ring : Ring) (p : ℕ) → StartsAt (rows_of L t) ring p → is_some (ring_dart (rows_of L t) ring) ≡ true
ring_start_some L t ring p s = let q = ring_dart_some (rows_of L t) ring p s in rw q.1 refl

-- ---- by the numbers of darts

pub starts_at : (L : Library) (t r d : ℕ) → IsTile L t → StartsRing L t r d → (a : AtPlace L t d) → StartsAt (rows_of L t) (ring_at L t r) a.place
starts_at L t r d tile s a =
    let few = tile.few in
    let in' = a.below in
    record {
      edge = sym (number-edge t a.place (omega arith)) ∙ ap edge_in a.is ∙ s.edge;
      side = sym (number_face L t a.place (omega arith)) ∙ ap (λ v. ((links_of L).face v).id) a.is ∙ s.face;
    }

pub starts_ring : (L : Library) (t r p : ℕ) → IsTile L t → IsRowOf (ring_count L t) r → p < 2 * edge_count L t → StartsAt (rows_of L t) (ring_at L t r) p
    → StartsRing L t r (number_at t p)
starts_ring L t r p tile row h s =
    let few = tile.few in
    record {
      row = row;
      dart = number_dart L t p tile.last tile.few h;
      edge = number-edge t p (omega arith) ∙ s.edge;
      face = number_face L t p (omega arith) ∙ s.side;
    }

-- the start edge of a ring is there
pub start_there : (L : Library) (t r : ℕ) → IsNumbered L t → IsRowOf (ring_count L t) r → IsRowOf (edge_count L t) (ring_at L t r).start_edge
start_there L t r numbered row = plain_row 1 (edge_count L t) (kth (tile_rings L t) r absent_ring).start_edge (numbered.rings r row).start_edge

-- a ring goes round the cycle of a dart exactly where that is the ring's cycle
pub goes_is : (L : Library) (t r d : ℕ) → IsTile L t → MakeMap (rows_of L t) → PairsTogether L t → GoesRound L t r d → (a : AtPlace L t d)
    → ring_cycle (rows_of L t) (ring_at L t r) ≡ least_place (rows_of L t) a.place
goes_is L t r d tile made pairs g a =
    let b : AtPlace L t g.start = at_place L t g.start g.starts.dart in
    let on : LeadsTo (local_map (links_of L)).next (number_at t a.place) (number_at t b.place) =
    subst (λ v. LeadsTo (local_map (links_of L)).next v (number_at t b.place)) (sym a.is)
    (subst (λ v. LeadsTo (local_map (links_of L)).next d v) (sym b.is) g.on) in
    ring_cycle_is L t (ring_at L t r) b.place pairs b.below (starts_at L t r g.start tile g.starts b) ∙ sym (least_by L t tile made a.place b.place a.below on)

pub place_least : (L : Library) (t p : ℕ) → IsTile L t → p < 2 * edge_count L t → least_place (rows_of L t) p < 2 * edge_count L t
unfolding least_place
place_least L t p tile h =
    subst (λ n. least_place (rows_of L t) p < 2 * n) (rows_count L t)
    (least_below (next_place (rows_of L t)) (2 * length (rows_of L t)) p (stays_below (rows_of L t) tile.among) (below_rows L t p h))

pub goes_from : (L : Library) (t r p : ℕ) → IsTile L t → MakeMap (rows_of L t) → IsNumbered L t → IsRowOf (ring_count L t) r → p < 2 * edge_count L t
    → ring_cycle (rows_of L t) (ring_at L t r) ≡ least_place (rows_of L t) p → GoesRound L t r (number_at t p)
goes_from L t r p tile made numbered row h e =
    let s : StartsOn L t (ring_at L t r) (least_place (rows_of L t) p) =
    ring_starts_on L t (ring_at L t r) (least_place (rows_of L t) p) (start_there L t r numbered row) (place_least L t p tile h) e in
    record {
      start = number_at t s.place;
      starts = starts_ring L t r s.place tile row s.below s.starts;
      on = least_leads L t tile made p s.place h s.below (sym s.least);
    }
