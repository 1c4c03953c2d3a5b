-- There is no finding on the faces and rings of a tile exactly where each cycle has one ring, and each face its rings together.
use Rattle.std.proofs.Common.{◌≡◌, ℕ, zero, suc, ◌+◌, ◌-◌, ◌*◌, ◌<◌, ◌≤◌, ◌⊎◌, true, eqb, Option, None, List, length, map, refl, sym, ap, subst, ◌∙◌, inl, inr, arith}
use Rattle.std.specs.Prelude.{is_some}
use Rattle.std.proofs.lemmas.Bool.{cases_eq, eqb-true}
use Rattle.std.proofs.lemmas.List.{length-map}
use Rattle.vpf_findings.specs.Findings.{Disagreement}
use Rattle.vpf_findings.specs.Firsts.{◌or◌, first_of_rows, first_over}
use Rattle.vpf_findings.specs.Inner.FirstLaws.{or-none_both, over_none, over_silent, unless_none}
use Rattle.vpf_prims.specs.Lists.{kth, first_item}
use Rattle.vpf_prims.specs.References.{id_of}
use Rattle.vpf_prims.specs.Primitives.{FacePrimitive, Library, absent_face, absent_ring, tile_faces, tile_rings, edge_count, face_count, ring_count}
use Rattle.vpf_prims.specs.Numbering.{IsRowOf, IsNumbered}
use Rattle.vpf_prims.specs.Tables.{TileTables}
use Rattle.vpf_wing.specs.declared.rings.Ring.{Ring}
use Rattle.vpf_wing.specs.Nexts.{MakeMap}
use Rattle.vpf_wing.specs.Places.{next_place, least_place}
use Rattle.vpf_wing.specs.CycleLines.{own_ring, faces_of_rings, first_ring, pointer_line, ring_dart, ring_cycle, ringless_line, apart_line, start_line, twice_line, ring_lines}
use Rattle.vpf_wing.specs.Links.{links_of}
use Rattle.vpf_wing.specs.WellFormed.{IsDartOf, StartsRing, GoesRound}
use Rattle.vpf_wing.proofs.LawFacts.{same, unless_holds, excludes_is, excludes_from, either_is, either_from, zero_or_some}
use Rattle.vpf_wing.proofs.LawRows.{row_none, row_silent, none_both}
use Rattle.vpf_wing.proofs.LawFirsts.{item-map, first-map, first_row, first_passes, first_at}
use Rattle.vpf_wing.proofs.LawDarts.{AtPlace, number_at, at_place, number_dart}
use Rattle.vpf_wing.proofs.LawLinks.{rows_of, rows_count}
use Rattle.vpf_wing.proofs.LawOrbits.{least_again}
use Rattle.vpf_wing.proofs.LawPlaces.{IsTile, AreNextsOf, below_rows, nexts_of}
use Rattle.vpf_wing.proofs.LawRings.{PairsTogether, rings_of, ring_at, cycles_of, no_cycle, rings_count, faces_count, cycles_count, ring_of_row, face_of_row, cycle_of_row, ring_some_start, starts_ring, start_there, goes_is, goes_from, place_least}

-- each ring goes round a cycle of its face
abbrev pub RingsStart : Library → ℕ → Type 0
RingsStart L t = (r : ℕ) → IsRowOf (ring_count L t) r → (d : ℕ) × StartsRing L t r d

-- each cycle has a ring
abbrev pub CyclesHaveRings : Library → ℕ → Type 0
CyclesHaveRings L t = (d : ℕ) → IsDartOf (links_of L) t d → (r : ℕ) × GoesRound L t r d

-- and no two
abbrev pub RingsOnce : Library → ℕ → Type 0
RingsOnce L t = (r s d : ℕ) → IsDartOf (links_of L) t d → GoesRound L t r d → GoesRound L t s d → r ≡ s

-- the rings of a face stand together
abbrev pub RingsTogether : Library → ℕ → Type 0
RingsTogether L t = (p q r : ℕ) → p ≤ q → q ≤ r → IsRowOf (ring_count L t) p → IsRowOf (ring_count L t) r
    → id_of (kth (tile_rings L t) p absent_ring).face ≡ id_of (kth (tile_rings L t) r absent_ring).face
    → id_of (kth (tile_rings L t) q absent_ring).face ≡ id_of (kth (tile_rings L t) p absent_ring).face

-- a face names its first ring
abbrev pub NamesRing : Library → ℕ → Type 0
NamesRing L t =
    (f : ℕ) → IsRowOf (face_count L t) f → id_of (kth (tile_faces L t) f absent_face).ring_ptr ≡ first_item (λ r. eqb (id_of r.face) f) (tile_rings L t)

-- the first rings that faces name
abbrev pub pointers_of : Library → ℕ → List ℕ
pointers_of L t = map (λ (f : FacePrimitive). id_of f.ring_ptr) (tile_faces L t)

abbrev pub pointer_lines : Library → ℕ → TileTables → Option Disagreement
pointer_lines L t T = first_of_rows (pointer_line t T (faces_of_rings (rings_of L t))) 1 (pointers_of L t)

abbrev pub ringless_lines : Library → ℕ → TileTables → Option Disagreement
ringless_lines L t T = first_over (ringless_line t T (rows_of L t) (cycles_of L t)) 0 (2 * length (rows_of L t))

abbrev pub rings_lines : Library → ℕ → TileTables → Option Disagreement
rings_lines L t T = first_of_rows (ring_lines t T (rows_of L t) (faces_of_rings (rings_of L t)) (cycles_of L t)) 1 (rings_of L t)

-- ---- the faces

first_ring_is : (L : Library) (t f : ℕ) → first_ring (faces_of_rings (rings_of L t)) f ≡ first_item (λ r. eqb (id_of r.face) f) (tile_rings L t)
first_ring_is L t f =
    first-map (λ (ring : Ring). ring.face) (λ x. eqb x f) 1 (rings_of L t) ∙ first-map own_ring (λ (ring : Ring). eqb ring.face f) 1 (tile_rings L t)

pointer_of_row : (L : Library) (t f : ℕ) → kth (pointers_of L t) f 0 ≡ id_of (kth (tile_faces L t) f absent_face).ring_ptr
pointer_of_row L t f = item-map (λ (x : FacePrimitive). id_of x.ring_ptr) (tile_faces L t) f absent_face

pointers_count : (L : Library) (t : ℕ) → length (pointers_of L t) ≡ face_count L t
pointers_count L t = length-map (tile_faces L t) (λ (x : FacePrimitive). id_of x.ring_ptr)

pub names_ring : (L : Library) (t : ℕ) (T : TileTables) → pointer_lines L t T ≡ None → NamesRing L t
names_ring L t T none f row =
    let line =
    row_none (pointer_line t T (faces_of_rings (rings_of L t))) (pointers_of L t) 0 none f (subst (λ n. IsRowOf n f) (sym (pointers_count L t)) row) in
    sym (pointer_of_row L t f) ∙ eqb-true _ _ (unless_none _ _ line) ∙ first_ring_is L t f

pub pointers_silent : (L : Library) (t : ℕ) (T : TileTables) → NamesRing L t → pointer_lines L t T ≡ None
pointers_silent L t T names = row_silent (pointer_line t T (faces_of_rings (rings_of L t))) (pointers_of L t) 0 (λ f row.
    let row' : IsRowOf (face_count L t) f = subst (λ n. IsRowOf n f) (pointers_count L t) row in
    unless_holds _ _ (same _ _ (pointer_of_row L t f ∙ names f row' ∙ sym (first_ring_is L t f))))

-- ---- the lines on a ring

-- what the lines on ring r say
pub record RingHolds (L : Library) (t r : ℕ) : Type 0 where
  pub apart : (first_ring (faces_of_rings (rings_of L t)) (ring_at L t r).face ≡ r) ⊎ (kth (faces_of_rings (rings_of L t)) (r - 1) 0 ≡ (ring_at L t r).face)
  pub starts : is_some (ring_dart (rows_of L t) (ring_at L t r)) ≡ true
  pub once : first_item (λ c. eqb c (ring_cycle (rows_of L t) (ring_at L t r))) (cycles_of L t) ≡ r

pub ring_holds : (L : Library) (t : ℕ) (T : TileTables) → rings_lines L t T ≡ None → (r : ℕ) → IsRowOf (ring_count L t) r → RingHolds L t r
ring_holds L t T none r row =
    let edges = rows_of L t in
    let faces = faces_of_rings (rings_of L t) in
    let line : ring_lines t T edges faces (cycles_of L t) r (kth (rings_of L t) r (own_ring absent_ring)) ≡ None =
    row_none (ring_lines t T edges faces (cycles_of L t)) (rings_of L t) (own_ring absent_ring) none r (subst (λ n. IsRowOf n r) (sym (rings_count L t)) row) in
    let line' : ring_lines t T edges faces (cycles_of L t) r (ring_at L t r) ≡ None =
    subst (λ ring. ring_lines t T edges faces (cycles_of L t) r ring ≡ None) (ring_of_row L t r) line in
    let a =
    or-none_both (apart_line t T faces r (ring_at L t r))
    (start_line t T edges r (ring_at L t r) or twice_line t T edges (cycles_of L t) r (ring_at L t r)) line' in
    let b = or-none_both (start_line t T edges r (ring_at L t r)) (twice_line t T edges (cycles_of L t) r (ring_at L t r)) a.1 in
    record {
      apart = either_is _ _ _ _ (unless_none _ _ a.0);
      starts = unless_none _ _ b.0;
      once = eqb-true _ _ (unless_none _ _ b.1);
    }

pub rings_silent : (L : Library) (t : ℕ) (T : TileTables) → ((r : ℕ) → IsRowOf (ring_count L t) r → RingHolds L t r) → rings_lines L t T ≡ None
rings_silent L t T all =
    let edges = rows_of L t in
    let faces = faces_of_rings (rings_of L t) in
    row_silent (ring_lines t T edges faces (cycles_of L t)) (rings_of L t) (own_ring absent_ring) (λ r row.
    let h : RingHolds L t r = all r (subst (λ n. IsRowOf n r) (rings_count L t) row) in
    let a : apart_line t T faces r (ring_at L t r) ≡ None = unless_holds _ _ (either_from _ _ _ _ h.apart) in
    let b : start_line t T edges r (ring_at L t r) ≡ None = unless_holds _ _ h.starts in
    let c : twice_line t T edges (cycles_of L t) r (ring_at L t r) ≡ None = unless_holds _ _ (same _ _ h.once) in
    subst (λ ring. ring_lines t T edges faces (cycles_of L t) r ring ≡ None) (sym (ring_of_row L t r)) (none_both _ _ a (none_both _ _ b c)))

-- ---- rings and cycles

pub rings_start : (L : Library) (t : ℕ) → IsTile L t → IsNumbered L t → ((r : ℕ) → IsRowOf (ring_count L t) r → RingHolds L t r) → RingsStart L t
rings_start L t tile numbered all r row =
    let p = ring_some_start L t (ring_at L t r) (start_there L t r numbered row) (all r row).starts in
    (number_at t p.0, starts_ring L t r p.0 tile row p.1 p.2)

-- the first ring of a cycle
abbrev first_with : Library → (t m : ℕ) → ℕ
first_with L t m = first_item (λ c. eqb c m) (cycles_of L t)

first_with_row : (L : Library) (t m : ℕ) → 0 < first_with L t m → IsRowOf (ring_count L t) (first_with L t m)
first_with_row L t m some = subst (λ n. IsRowOf n (first_with L t m)) (cycles_count L t) (first_row (λ c. eqb c m) (cycles_of L t) (no_cycle L t) some)

first_with_is : (L : Library) (t m : ℕ) → 0 < first_with L t m → ring_cycle (rows_of L t) (ring_at L t (first_with L t m)) ≡ m
first_with_is L t m some = sym (cycle_of_row L t (first_with L t m)) ∙ eqb-true _ _ (first_passes (λ c. eqb c m) (cycles_of L t) (no_cycle L t) some)

some_with : (L : Library) (t m r : ℕ) → IsRowOf (ring_count L t) r → ring_cycle (rows_of L t) (ring_at L t r) ≡ m → 0 < first_with L t m
some_with L t m r row e =
    (first_at (λ c. eqb c m) (cycles_of L t) (no_cycle L t) r (subst (λ n. IsRowOf n r) (sym (cycles_count L t)) row) (same _ _ (cycle_of_row L t r ∙ e))).0

least_least : (L : Library) (t p : ℕ) → IsTile L t → MakeMap (rows_of L t) → p < 2 * edge_count L t
    → least_place (rows_of L t) (least_place (rows_of L t) p) ≡ least_place (rows_of L t) p
unfolding least_place
least_least L t p tile made h =
    let n : AreNextsOf L t = nexts_of L t tile made in
    least_again (next_place (rows_of L t)) (2 * length (rows_of L t)) n.apart n.stays p (below_rows L t p h)

pub cycles_have_rings : (L : Library) (t : ℕ) (T : TileTables) → IsTile L t → IsNumbered L t → MakeMap (rows_of L t) → ringless_lines L t T ≡ None
    → CyclesHaveRings L t
cycles_have_rings L t T tile numbered made none d hd =
    let a : AtPlace L t d = at_place L t d hd in
    let in' : least_place (rows_of L t) a.place < 2 * edge_count L t = place_least L t a.place tile a.below in
    let line =
    over_none (ringless_line t T (rows_of L t) (cycles_of L t)) 0 (2 * length (rows_of L t)) none (least_place (rows_of L t) a.place) (omega arith)
    (omega (arith, rows_count L t)) in
    let no = excludes_is _ _ _ _ (unless_none _ _ line) (least_least L t a.place tile made a.below) in
    let some : 0 < first_with L t (least_place (rows_of L t) a.place) = elim (zero_or_some (first_with L t (least_place (rows_of L t) a.place))) [
      | inl z ↦ absurd (no z)
      | inr some ↦ some
    ] in
    let r : ℕ = first_with L t (least_place (rows_of L t) a.place) in
    let row = first_with_row L t (least_place (rows_of L t) a.place) some in
    let is = first_with_is L t (least_place (rows_of L t) a.place) some in
    (r, subst (λ v. GoesRound L t r v) a.is (goes_from L t r a.place tile made numbered row a.below is))

pub ringless_silent : (L : Library) (t : ℕ) (T : TileTables) → IsTile L t → MakeMap (rows_of L t) → PairsTogether L t → CyclesHaveRings L t
    → ringless_lines L t T ≡ None
ringless_silent L t T tile made pairs have = over_silent (ringless_line t T (rows_of L t) (cycles_of L t)) 0 (2 * length (rows_of L t)) (λ p low high.
    let h : p < 2 * edge_count L t = omega (arith, rows_count L t) in
    let dart = number_dart L t p tile.last tile.few h in
    let r = have (number_at t p) dart in
    let a : AtPlace L t (number_at t p) = record { place = p; below = h; is = refl } in
    let on = goes_is L t r.0 (number_at t p) tile made pairs r.1 a in
    unless_holds _ _ (excludes_from _ _ _ _ (λ own none.
    let some = some_with L t p r.0 r.1.starts.row (on ∙ own) in
    absurd (omega arith))))

pub rings_once : (L : Library) (t : ℕ) → IsTile L t → MakeMap (rows_of L t) → PairsTogether L t → ((r : ℕ) → IsRowOf (ring_count L t) r → RingHolds L t r)
    → RingsOnce L t
rings_once L t tile made pairs all r s d hd g h =
    let a : AtPlace L t d = at_place L t d hd in
    let er = goes_is L t r d tile made pairs g a in
    let es = goes_is L t s d tile made pairs h a in
    let fr : first_item (λ c. eqb c (least_place (rows_of L t) a.place)) (cycles_of L t) ≡ r =
    subst (λ v. first_item (λ c. eqb c v) (cycles_of L t) ≡ r) er (all r g.starts.row).once in
    let fs : first_item (λ c. eqb c (least_place (rows_of L t) a.place)) (cycles_of L t) ≡ s =
    subst (λ v. first_item (λ c. eqb c v) (cycles_of L t) ≡ s) es (all s h.starts.row).once in
    sym fr ∙ fs

-- the first ring of the cycle of ring r is r
pub once_from : (L : Library) (t r p : ℕ) → IsTile L t → MakeMap (rows_of L t) → IsNumbered L t → RingsOnce L t → IsRowOf (ring_count L t) r
    → p < 2 * edge_count L t
    → ring_cycle (rows_of L t) (ring_at L t r) ≡ least_place (rows_of L t) p
    → first_item (λ c. eqb c (ring_cycle (rows_of L t) (ring_at L t r))) (cycles_of L t) ≡ r
once_from L t r p tile made numbered once row h e =
    let m : ℕ = ring_cycle (rows_of L t) (ring_at L t r) in
    let some = some_with L t m r row refl in
    let first = goes_from L t (first_with L t m) p tile made numbered (first_with_row L t m some) h (first_with_is L t m some ∙ e) in
    once (first_with L t m) r (number_at t p) (number_dart L t p tile.last tile.few h) first (goes_from L t r p tile made numbered row h e)

-- ---- rings of a face

-- the rings between two of a face are of the face, where each ring is its face's first or has that of the one before
between : (L : Library) (t : ℕ) → ((r : ℕ) → IsRowOf (ring_count L t) r → RingHolds L t r) → (k p q r : ℕ) → r ≡ q + k → p ≤ q
    → IsRowOf (ring_count L t) p → IsRowOf (ring_count L t) r → (ring_at L t p).face ≡ (ring_at L t r).face → (ring_at L t q).face ≡ (ring_at L t r).face
between L t all zero p q r e le hp hr one = (let z : q ≡ r = omega arith in ap (λ v. (ring_at L t v).face) z)
between L t all (suc k) p q r e le hp hr one =
    let low = hp.0 in
    let high = hr.1 in
    let after : (ring_at L t (q + 1)).face ≡ (ring_at L t r).face = between L t all k p (q + 1) r (omega arith) (omega arith) hp hr one in
    let row : IsRowOf (ring_count L t) (q + 1) = (omega arith, omega arith) in
    let before : q + 1 - 1 ≡ q = omega arith in
    elim (all (q + 1) row).apart [
      | inl first ↦ (
          let here : kth (faces_of_rings (rings_of L t)) p 0 ≡ (ring_at L t (q + 1)).face = face_of_row L t p ∙ one ∙ sym after in
          let f =
          first_at (λ x. eqb x (ring_at L t (q + 1)).face) (faces_of_rings (rings_of L t)) 0 p (subst (λ n. IsRowOf n p) (sym (faces_count L t)) hp)
          (same _ _ here) in
          let few = f.1 in
          absurd (omega arith))
      | inr has ↦ sym (face_of_row L t q) ∙ ap (λ v. kth (faces_of_rings (rings_of L t)) v 0) (sym before) ∙ has ∙ after
    ]

pub rings_together : (L : Library) (t : ℕ) → ((r : ℕ) → IsRowOf (ring_count L t) r → RingHolds L t r) → RingsTogether L t
rings_together L t all p q r le ge hp hr one = between L t all (r - q) p q r (omega arith) le hp hr one ∙ sym one

pub apart_from : (L : Library) (t : ℕ) → RingsTogether L t → (r : ℕ) → IsRowOf (ring_count L t) r
    → (first_ring (faces_of_rings (rings_of L t)) (ring_at L t r).face ≡ r) ⊎ (kth (faces_of_rings (rings_of L t)) (r - 1) 0 ≡ (ring_at L t r).face)
apart_from L t together r row =
    let faces : List ℕ = faces_of_rings (rings_of L t) in
    let first : ℕ = first_ring faces (ring_at L t r).face in
    let high = row.1 in
    let at =
    first_at (λ x. eqb x (ring_at L t r).face) faces 0 r (subst (λ n. IsRowOf n r) (sym (faces_count L t)) row)
    (same _ _ (face_of_row L t r)) in
    let some = at.0 in
    let few = at.1 in
    elim (cases_eq first r) [
      | inl e ↦ inl e
      | inr ne ↦ (
          let is = eqb-true _ _ (first_passes (λ x. eqb x (ring_at L t r).face) faces 0 at.0) in
          let one : (ring_at L t first).face ≡ (ring_at L t r).face =
          sym (face_of_row L t first) ∙ is in
          let before : (ring_at L t (r - 1)).face ≡ (ring_at L t first).face =
          together first (r - 1) r (omega arith) (omega arith) (omega arith, omega arith) row one in
          inr (face_of_row L t (r - 1) ∙ before ∙ one))
    ]
