-- The rows of the grid are numbered, and what they name is there.
use Rattle.std.proofs.Common.{◌≡◌, ℕ, ◌+◌, ◌*◌, ◌/◌, ◌^◌, ◌<◌, ◌≤◌, Bool, true, false, ◌==◌, length, Some, None, if◌then◌else◌, refl, sym, ap, subst, ◌∙◌, inl, inr, arith}
use Rattle.std.proofs.lemmas.Bool.{cases_Bool, cases_lt, false≢true as no_yes}
use Rattle.std.proofs.lemmas.Bool.Decides.{nat_tests}
use Rattle.std.proofs.lemmas.List.FromFn.{length-map-range_with_len}
use Rattle.vpf_darts.specs.Darts.{code}
use Rattle.vpf_prims.specs.References.{plain}
use Rattle.vpf_prims.specs.Lists.{kth}
use Rattle.vpf_prims.specs.Primitives.{edges_in, absent_edge, absent_face, absent_ring, absent_node, tile_edges, tile_faces, tile_rings, tile_nodes, edge_count, face_count, ring_count, node_count}
use Rattle.vpf_prims.specs.Numbering.{IsRowOf, IsPlain, IsLineMark, IsEdgeOf, IsFaceOf, IsRingOf, IsNodeOf, IsNumbered}
use Rattle.vpf_vectors.specs.Cells.Numbers.{nodes, edges, faces}
use Rattle.vpf_vectors.specs.Cells.Maps.{has_dart, next_in_grid}
use Rattle.vpf_vectors.specs.Cells.Rows.{row_of_edge, first_edge, start_edge}
use Rattle.vpf_vectors.specs.Inner.GridCoverage.Coverage.{grid_edge, grid_face, grid_ring, grid_node, grid_library}
use Rattle.vpf_vectors.specs.Inner.GridCoverage.Laws.{GridIsLibrary}
use Rattle.vpf_vectors.proofs.grid_coverage.GridFacts.{GridFacts}
use Rattle.vpf_vectors.specs.Inner.GridCoverage.RowLaws.{kth_row}
use Rattle.vpf_vectors.specs.Inner.GridCoverage.DartLaws.{few_grid_edges as few_edges, count_edges}

pub count_faces : (n : ℕ) → face_count (grid_library n) 0 ≡ faces n
count_faces n = length-map-range_with_len grid_face 1 (faces n)

pub count_rings : (n : ℕ) → ring_count (grid_library n) 0 ≡ faces n
count_rings n = length-map-range_with_len grid_ring 1 (faces n)

pub count_nodes : (n : ℕ) → node_count (grid_library n) 0 ≡ nodes n
count_nodes n = length-map-range_with_len (grid_node n) 1 (nodes n)

pub edge-at : (n e : ℕ) → IsRowOf (edges n) e → kth (tile_edges (grid_library n) 0) e absent_edge ≡ grid_edge n e
edge-at n e i = kth_row (grid_edge n) (edges n) e absent_edge i.0 i.1

pub face-at : (n f : ℕ) → IsRowOf (faces n) f → kth (tile_faces (grid_library n) 0) f absent_face ≡ grid_face f
face-at n f i = kth_row grid_face (faces n) f absent_face i.0 i.1

pub ring-at : (n r : ℕ) → IsRowOf (faces n) r → kth (tile_rings (grid_library n) 0) r absent_ring ≡ grid_ring r
ring-at n r i = kth_row grid_ring (faces n) r absent_ring i.0 i.1

pub node-at : (n k : ℕ) → IsRowOf (nodes n) k → kth (tile_nodes (grid_library n) 0) k absent_node ≡ grid_node n k
node-at n k i = kth_row (grid_node n) (nodes n) k absent_node i.0 i.1

-- a number among so many, however they are counted
pub counted : (m n k : ℕ) → m ≡ n → IsRowOf m k → IsRowOf n k
counted m n k e i = (i.0, subst (λ x. k ≤ x) e i.1)

-- a reference to one of so many
refers : (m n k : ℕ) → m ≡ n → IsRowOf n k → IsPlain 1 m (plain k)
refers m n k e i = record { id = k; is = refl; from_low = i.0; to_last = subst (λ x. k ≤ x) (sym e) i.1 }

-- the darts of an edge are there, and so is the edge of a dart
pub plus_there : (n e : ℕ) → IsRowOf (edges n) e → has_dart n (code 0 e 0) ≡ true
unfolding code
plus_there n e i =
    let a : 2 ≤ 2 * (2 ^ 32 * 0 + e) + 0 = omega (arith, i) in
    let b : 2 * (2 ^ 32 * 0 + e) + 0 < 2 * edges n + 2 = omega (arith, i) in
    grind (arith, nat_tests)

pub minus_there : (n e : ℕ) → IsRowOf (edges n) e → has_dart n (code 0 e 1) ≡ true
unfolding code
minus_there n e i =
    let a : 2 ≤ 2 * (2 ^ 32 * 0 + e) + 1 = omega (arith, i) in
    let b : 2 * (2 ^ 32 * 0 + e) + 1 < 2 * edges n + 2 = omega (arith, i) in
    grind (arith, nat_tests)

pub edge_of : (n d : ℕ) → has_dart n d ≡ true → IsRowOf (edges n) (d / 2)
edge_of n d h = let b : (2 ≤ d) × (d < 2 * edges n + 2) = grind (arith, nat_tests) in (omega (arith, b), omega (arith, b))

next_edge : (F : GridFacts) (n d : ℕ) → 1 ≤ n → has_dart n d ≡ true → IsRowOf (edges n) (next_in_grid n d / 2)
next_edge F n d le h = edge_of n (next_in_grid n d) ((F.map n le).next_live d ∙ h)

marked : (line : Bool) → IsLineMark (Some (if line then 1 else 0))
marked true = inr refl
marked false = inl refl

edge_numbered : (F : GridFacts) (n e : ℕ) → 1 ≤ n → IsRowOf (edges n) e → IsEdgeOf (grid_library n) 0 e (grid_edge n e)
edge_numbered F n e le i =
    let p = plus_there n e i in
    let m = minus_there n e i in
    record {
      id = refl;
      start_node = inl (refers (node_count (grid_library n) 0) (nodes n) (row_of_edge n e).start_node (count_nodes n) (F.in_range n (code 0 e 0) le p).tail);
      end_node = inl (refers (node_count (grid_library n) 0) (nodes n) (row_of_edge n e).end_node (count_nodes n) (F.in_range n (code 0 e 0) le p).head);
      right_face = inl (refers (face_count (grid_library n) 0) (faces n) (row_of_edge n e).right_face (count_faces n) (F.in_range n (code 0 e 0) le p).face);
      left_face = inl (refers (face_count (grid_library n) 0) (faces n) (row_of_edge n e).left_face (count_faces n) (F.in_range n (code 0 e 1) le m).face);
      right_edge = inl (refers (edge_count (grid_library n) 0) (edges n) (row_of_edge n e).right_edge (count_edges n) (next_edge F n (code 0 e 0) le p));
      left_edge = inl (refers (edge_count (grid_library n) 0) (edges n) (row_of_edge n e).left_edge (count_edges n) (next_edge F n (code 0 e 1) le m));
      mark = marked (row_of_edge n e).tile_line;
    }

-- a pointer may be 0 at face 1 alone
least_ring : (k : ℕ) → 1 ≤ k → (if k == 1 then 0 else 1) ≤ k
least_ring k low = elim (cases_Bool (k == 1)) [ inl t ↦ rw t (omega arith) | inr f ↦ rw f low ]

face_numbered : (n f : ℕ) → IsRowOf (faces n) f → IsFaceOf (grid_library n) 0 f (grid_face f)
face_numbered n f i = record {
  id = refl;
  ring_ptr = record { id = f; is = refl; from_low = least_ring f i.0; to_last = subst (λ x. f ≤ x) (sym (count_rings n)) i.1 };
}

pub start_there : (F : GridFacts) (n r : ℕ) → 1 ≤ n → IsRowOf (faces n) r → IsRowOf (edges n) (start_edge r)
start_there F n r le i = let h = F.ring n r le i.0 i.1 in subst (IsRowOf (edges n)) h.of_edge (edge_of n _ h.there)

ring_numbered : (F : GridFacts) (n r : ℕ) → 1 ≤ n → IsRowOf (faces n) r → IsRingOf (grid_library n) 0 r (grid_ring r)
ring_numbered F n r le i = record {
  id = refl;
  face = refers (face_count (grid_library n) 0) (faces n) r (count_faces n) i;
  start_edge = refers (edge_count (grid_library n) 0) (edges n) (start_edge r) (count_edges n) (start_there F n r le i);
}

node_numbered : (F : GridFacts) (n k : ℕ) → 1 ≤ n → IsRowOf (nodes n) k → IsNodeOf (grid_library n) 0 k (grid_node n k)
node_numbered F n k le i =
    let h = F.first n k le i.0 i.1 in
    let e : IsRowOf (edges n) (first_edge n k) = subst (IsRowOf (edges n)) h.of_edge (edge_of n h.dart h.there) in
    record { id = refl; first_edge = refers (edge_count (grid_library n) 0) (edges n) (first_edge n k) (count_edges n) e }

some_face : (n : ℕ) → 1 ≤ faces n
unfolding faces
some_face n = omega arith

pub numbered : (F : GridFacts) (n : ℕ) → 1 ≤ n → IsNumbered (grid_library n) 0
numbered F n le = record {
  edges = λ k i.
      (let j = counted (edge_count (grid_library n) 0) (edges n) k (count_edges n) i in
      subst (IsEdgeOf (grid_library n) 0 k) (sym (edge-at n k j)) (edge_numbered F n k le j));
  faces = λ k i.
      (let j = counted (face_count (grid_library n) 0) (faces n) k (count_faces n) i in
      subst (IsFaceOf (grid_library n) 0 k) (sym (face-at n k j)) (face_numbered n k j));
  rings = λ k i.
      (let j = counted (ring_count (grid_library n) 0) (faces n) k (count_rings n) i in
      subst (IsRingOf (grid_library n) 0 k) (sym (ring-at n k j)) (ring_numbered F n k le j));
  nodes = λ k i.
      (let j = counted (node_count (grid_library n) 0) (nodes n) k (count_nodes n) i in
      subst (IsNodeOf (grid_library n) 0 k) (sym (node-at n k j)) (node_numbered F n k le j));
  entities = λ k i. absurd (omega (arith, i));
  universe = subst (λ x. 1 ≤ x) (sym (count_faces n)) (some_face n);
}

past_first : (t : ℕ) → 0 < t → (t == 0) ≡ false
past_first t h = grind (arith, nat_tests)

none_after : (n t : ℕ) → 0 < t → (grid_library n).tile t ≡ None
none_after n t h = rw (past_first t h) refl

few_in : (n t : ℕ) → n ≤ 200 → edge_count (grid_library n) t < 2 ^ 24
few_in n t most = elim (cases_lt 0 t) [
  | inl h ↦ (let z : length (edges_in ((grid_library n).tile t)) ≡ 0 = ap (λ c. length (edges_in c)) (none_after n t h) in omega (arith, z))
  | inr h ↦ (let e : t ≡ 0 = omega arith in subst (λ k. k < 2 ^ 24) (sym (ap (edge_count (grid_library n)) e ∙ count_edges n)) (few_edges n most))
]

pub tiles_make_library : GridIsLibrary
tiles_make_library n most = record {
  few = λ t. few_in n t most;
  none_after = λ t h. none_after n t h;
  from_one = λ e. absurd (no_yes e);
  one = λ e. refl;
  some = 0;
  has_some = refl;
}
