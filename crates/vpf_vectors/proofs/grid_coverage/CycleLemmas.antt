-- The cycles of the grid, its rings and its first edges.
use Rattle.std.proofs.Common.{◌≡◌, ◌≢◌, ◌⊎◌, ℕ, ◌/◌, ◌^◌, ◌<◌, ◌≤◌, Bool, true, false, ◌&&◌, ◌==◌, List, Some, if◌then◌else◌, refl, sym, ap, subst, ◌∙◌, inl, inr, arith}
use Rattle.std.proofs.lemmas.Bool.{cases_Bool}
use Rattle.std.proofs.lemmas.Bool.Decides.{nat_tests}
use Rattle.vpf_darts.specs.Cycles.{count_of}
use Rattle.vpf_darts.specs.Darts.{code, flip}
use Rattle.vpf_darts.specs.Maps.{DartMap, turn}
use Rattle.vpf_prims.specs.References.{id_of}
use Rattle.vpf_prims.specs.Lists.{kth, first_item}
use Rattle.vpf_prims.specs.Primitives.{FacePrimitive, RingPrimitive, NodePrimitive, absent_ring, tile_rings, face_count, ring_count, node_count}
use Rattle.vpf_prims.specs.Numbering.{IsRowOf}
use Rattle.vpf_wing.specs.Walks.{LeadsTo}
use Rattle.vpf_wing.specs.Links.{is_minus, tail_node}
use Rattle.vpf_wing.specs.WellFormed.{StartsRing, GoesRound, IsAtNode, HasCycles, HasLoops}
use Rattle.vpf_vectors.specs.Cells.Numbers.{nodes, edges, faces, node_of, node_x, node_y}
use Rattle.vpf_vectors.specs.Cells.Maps.{has_dart, next_in_grid, grid_map, tail_in, face_in, IsOneCycle}
use Rattle.vpf_vectors.specs.Cells.Rows.{first_edge, start_dart}
use Rattle.vpf_vectors.specs.Inner.GridCoverage.Coverage.{grid_ring, grid_library, grid_links}
use Rattle.vpf_vectors.proofs.grid_coverage.GridFacts.{GridFacts}
use Rattle.vpf_vectors.proofs.grid_coverage.WalkLemmas.{cycle_leads, kept_on}
use Rattle.vpf_vectors.proofs.grid_coverage.RowLemmas.{first_row}
use Rattle.vpf_vectors.proofs.grid_coverage.DartLemmas.{is_dart, tail-is}
use Rattle.vpf_vectors.specs.Inner.GridCoverage.DartLaws.{plus_dart, minus_dart, there_only, edge-is, face-is, flip_there}
use Rattle.vpf_vectors.proofs.grid_coverage.NextLemmas.{next-is, map-is}
use Rattle.vpf_vectors.proofs.grid_coverage.NumberLemmas.{count_faces, count_rings, count_nodes, face-at, ring-at, node-at, counted}

some_same : (x y : ℕ) → Some x ≡ Some y → x ≡ y
some_same x y e = cc

-- two darts of one cycle lead to each other
one_cycle : (next : ℕ → ℕ) (among : ℕ → Bool) (darts : List ℕ) (x y : ℕ) → IsOneCycle next among darts → among x ≡ true → among y ≡ true → LeadsTo next x y
one_cycle next among darts x y o hx hy =
    let a : count_of x darts ≡ 1 = o.once x ∙ ap (λ b. if b then 1 else 0) hx in
    let b : count_of y darts ≡ 1 = o.once y ∙ ap (λ b. if b then 1 else 0) hy in
    cycle_leads next darts x y o.cycle (omega arith) (omega arith)

-- a dart that is there, and has this number, is among them
holds : (h : Bool) (a b : ℕ) → h ≡ true → a ≡ b → (h && (a == b)) ≡ true
holds h a b t e = grind (arith, nat_tests)

-- the darts of a node are on one cycle of turn
node_leads : (F : GridFacts) (n d e : ℕ) → 1 ≤ n → has_dart n d ≡ true → has_dart n e ≡ true → tail_in n d ≡ tail_in n e → LeadsTo (turn (grid_map n)) d e
node_leads F n d e le hd he same =
    let r = (F.in_range n d le hd).tail in
    let c = F.corner n (tail_in n d) r.0 r.1 in
    one_cycle (turn (grid_map n)) _ _ d e (F.node n (node_x n (tail_in n d)) (node_y n (tail_in n d)) le c.0 c.1)
    (holds (has_dart n d) (tail_in n d) (node_of n (node_x n (tail_in n d)) (node_y n (tail_in n d))) hd (sym c.2))
    (holds (has_dart n e) (tail_in n e) (node_of n (node_x n (tail_in n d)) (node_y n (tail_in n d))) he (sym same ∙ sym c.2))

-- those of a face on one of next
face_leads : (F : GridFacts) (n d e : ℕ) → 1 ≤ n → has_dart n d ≡ true → has_dart n e ≡ true → face_in n d ≡ face_in n e → LeadsTo (next_in_grid n) d e
face_leads F n d e le hd he same =
    let r = (F.in_range n d le hd).face in
    one_cycle (next_in_grid n) _ _ d e (F.face n (face_in n d) le r.0 r.1) (holds (has_dart n d) (face_in n d) (face_in n d) hd refl)
    (holds (has_dart n e) (face_in n e) (face_in n d) he (sym same))

-- next keeps the face of each number
next_keeps : (F : GridFacts) (n d : ℕ) → 1 ≤ n → face_in n (next_in_grid n d) ≡ face_in n d
next_keeps F n d le = elim (cases_Bool (has_dart n d)) [ inl t ↦ (F.fit n d le t).face | inr f ↦ ap (face_in n) ((F.map n le).next_dead d f) ]

-- ring r starts at the dart of face r
starts_ring : (F : GridFacts) (n r : ℕ) → 1 ≤ n → edges n < 2 ^ 32 → IsRowOf (faces n) r → StartsRing (grid_library n) 0 r (start_dart r)
starts_ring F n r le few i =
    let h = F.ring n r le i.0 i.1 in
    record {
      row = counted (faces n) (ring_count (grid_library n) 0) r (sym (count_rings n)) i;
      dart = is_dart n (start_dart r) few h.there;
      edge = edge-is n (start_dart r) few h.there ∙ h.of_edge ∙ ap (λ (x : RingPrimitive). id_of x.start_edge) (sym (ring-at n r i));
      face = face-is n (start_dart r) few h.there ∙ h.of_face ∙ ap (λ (x : RingPrimitive). id_of x.face) (sym (ring-at n r i));
    }

goes_round : (F : GridFacts) (n d : ℕ) → 1 ≤ n → edges n < 2 ^ 32 → has_dart n d ≡ true → GoesRound (grid_library n) 0 (face_in n d) d
goes_round F n d le few h =
    let i = (F.in_range n d le h).face in
    let s = F.ring n (face_in n d) le i.0 i.1 in
    record {
      start = start_dart (face_in n d);
      starts = starts_ring F n (face_in n d) le few i;
      on = subst (λ (m : DartMap). LeadsTo m.next d (start_dart (face_in n d))) (sym (map-is F n le few))
          (face_leads F n d (start_dart (face_in n d)) le h s.there (sym s.of_face));
    }

-- a ring that goes round the cycle of a dart has the number of its face
ring_is : (F : GridFacts) (n r d : ℕ) → 1 ≤ n → edges n < 2 ^ 32 → GoesRound (grid_library n) 0 r d → r ≡ face_in n d
ring_is F n r d le few g =
    let h : has_dart n g.start ≡ true = there_only n g.start g.starts.dart.has in
    let i = counted (ring_count (grid_library n) 0) (faces n) r (count_rings n) g.starts.row in
    let f : face_in n g.start ≡ r = sym (face-is n g.start few h) ∙ g.starts.face ∙ ap (λ (x : RingPrimitive). id_of x.face) (ring-at n r i) in
    let l : LeadsTo (next_in_grid n) d g.start = subst (λ (m : DartMap). LeadsTo m.next d g.start) (map-is F n le few) g.on in
    sym f ∙ kept_on (next_in_grid n) (face_in n) (λ e. next_keeps F n e le) l.0 d g.start l.1

ring_face : (n r : ℕ) → IsRowOf (ring_count (grid_library n) 0) r → id_of (kth (tile_rings (grid_library n) 0) r absent_ring).face ≡ r
ring_face n r i = ap (λ (x : RingPrimitive). id_of x.face) (ring-at n r (counted (ring_count (grid_library n) 0) (faces n) r (count_rings n) i))

same : (f : ℕ) → (f == f) ≡ true
same f = grind (arith, nat_tests)

other : (j f : ℕ) → j ≢ f → (j == f) ≡ false
other j f ne = grind (arith, nat_tests)

-- a face names its ring, the first that has its number
first_ring : (n f : ℕ) → IsRowOf (faces n) f → first_item (λ (r : RingPrimitive). id_of r.face == f) (tile_rings (grid_library n) 0) ≡ f
first_ring n f i =
    first_row (λ (r : RingPrimitive). id_of r.face == f) grid_ring (faces n) f i.0 i.1 (same f) (λ j ne. other j f ne)

-- a dart is the + or the - dart of its edge
plus_or_minus : (d e : ℕ) → d / 2 ≡ e → (d ≡ code 0 e 0) ⊎ (d ≡ code 0 e 1)
plus_or_minus d e h = elim (cases_Bool (is_minus d)) [
  | inl m ↦ inr (sym (minus_dart d m) ∙ ap (λ k. code 0 k 1) h)
  | inr m ↦ inl (sym (plus_dart d m) ∙ ap (λ k. code 0 k 0) h)
]

-- a node names an edge at it
at_node : (F : GridFacts) (n k : ℕ) → 1 ≤ n → edges n < 2 ^ 32 → IsRowOf (nodes n) k → IsAtNode (grid_links n) 0 (first_edge n k) k
at_node F n k le few i =
    let h = F.first n k le i.0 i.1 in
    let t : tail_node (grid_links n) h.dart ≡ k = tail-is F n h.dart le few h.there ∙ h.leaves in
    elim (plus_or_minus h.dart (first_edge n k) h.of_edge) [
      | inl e ↦ inl (ap (tail_node (grid_links n)) (sym e) ∙ t)
      | inr e ↦ inr (ap (tail_node (grid_links n)) (sym e) ∙ t)
    ]

pub cycles : (F : GridFacts) (n : ℕ) → 1 ≤ n → edges n < 2 ^ 32 → HasCycles (grid_library n) 0
cycles F n le few = record {
  next = λ d i. (next_in_grid n d, next-is F n d le few (there_only n d i.has));
  next_apart = λ d e i j same. (
      let hd = there_only n d i.has in
      let he = there_only n e j.has in
      (F.map n le).next_apart d e (some_same (next_in_grid n d) (next_in_grid n e) (sym (next-is F n d le few hd) ∙ same ∙ next-is F n e le few he)));
  node = λ d e i j same. (
      let hd = there_only n d i.has in
      let he = there_only n e j.has in
      subst (λ (m : DartMap). LeadsTo (turn m) d e) (sym (map-is F n le few))
      (node_leads F n d e le hd he (sym (tail-is F n d le few hd) ∙ same ∙ tail-is F n e le few he)));
  sides = λ d i same. (
      let h = there_only n d i.has in
      absurd ((F.fit n d le h).sides (sym (face-is n d few h) ∙ same ∙ face-is n (flip d) few (flip_there n d h))));
  ring_cycle = λ r i. (start_dart r, starts_ring F n r le few (counted (ring_count (grid_library n) 0) (faces n) r (count_rings n) i));
  cycle_ring = λ d i. (face_in n d, goes_round F n d le few (there_only n d i.has));
  ring_once = λ r s d i g h. ring_is F n r d le few g ∙ sym (ring_is F n s d le few h);
  together = λ p q r pq qr i j same. (
      let e : p ≡ r = sym (ring_face n p i) ∙ same ∙ ring_face n r j in
      let f : q ≡ p = omega arith in
      ap (λ k. id_of (kth (tile_rings (grid_library n) 0) k absent_ring).face) f);
  ring_ptr = λ f i. (
      let j = counted (face_count (grid_library n) 0) (faces n) f (count_faces n) i in
      ap (λ (x : FacePrimitive). id_of x.ring_ptr) (face-at n f j) ∙ sym (first_ring n f j));
  first_edge = λ k i. (
      let j = counted (node_count (grid_library n) 0) (nodes n) k (count_nodes n) i in
      subst (λ e. IsAtNode (grid_links n) 0 e k) (ap (λ (x : NodePrimitive). id_of x.first_edge) (sym (node-at n k j))) (at_node F n k le few j));
}

pub loops : (F : GridFacts) (n : ℕ) → 1 ≤ n → edges n < 2 ^ 32 → HasLoops (grid_links n)
loops F n le few d i same =
    let h = there_only n d i in
    let g = flip_there n d h in
    absurd ((F.fit n d le h).no_loop (sym (tail-is F n d le few h) ∙ same ∙ tail-is F n (flip d) le few g ∙ (F.fit n d le h).back))
