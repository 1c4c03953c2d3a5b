-- The numbers of the grid's rows are small, and there are few of them.
use Rattle.std.proofs.Common.{◌≡◌, ℕ, ◌+◌, ◌*◌, ◌/◌, ◌%◌, ◌<◌, ◌≤◌, true, length, map, refl, sym, subst, ◌∙◌, arith}
use Rattle.std.specs.List.{All, range_with_len}
use Rattle.std.proofs.lemmas.Bool.Decides.{nat_tests}
use Rattle.std.proofs.lemmas.List.FromFn.{length-range_with_len, get_or-range_with_len, length-map-range_with_len, get_or-map-range_with_len}
use Rattle.vpf_darts.specs.Darts.{code}
use Rattle.vpf_vectors.specs.Inner.Cells.Laws.{DartsAreInRange, GridIsMap, FirstEdgesAreLeast, FacesHaveTiles}
use Rattle.vpf_vectors.specs.Cells.Maps.{has_dart, next_in_grid, tail_in, head_in, face_in}
use Rattle.vpf_vectors.specs.Cells.Numbers.{nodes, faces, edges}
use Rattle.vpf_vectors.specs.Cells.Rows.{row_of_edge, grid_ring_row, start_edge, first_edge, tile_of, edge_rows, face_rows, ring_rows, node_rows, plan_rows}
use Rattle.vpf_vectors.specs.Library.{tiles}
use Rattle.vpf_vectors.specs.Inner.Writing.{IsGridNumber, IsSmallEdge, IsSmallRingRow}
use Rattle.vpf_vectors.specs.Inner.SmallLaws.{few_faces, few_nodes, few_tiles, few_edges}

below : (a b c : ℕ) → a ≤ b → b ≤ c → a ≤ c
below a b c h k = omega arith

-- what is so of each number is so of each row
pub each_mapped : {X : Type 0} (P : X → Type 0) (f : ℕ → X) (a n : ℕ) → ((k : ℕ) → a ≤ k → k < a + n → P (f k)) → All P (map f (range_with_len a n))
each_mapped P f a n g k d lt =
    let l = length-map-range_with_len f a n in
    let small : k < n = omega (arith, l) in
    subst P (sym (get_or-map-range_with_len f a n k (a + k) d small refl)) (g (a + k) (omega arith) (omega arith))

each_numbered : (P : ℕ → Type 0) (a n : ℕ) → ((k : ℕ) → a ≤ k → k < a + n → P k) → All P (range_with_len a n)
each_numbered P a n g k d lt =
    let l = length-range_with_len a n in
    let small : k < n = omega (arith, l) in
    subst P (sym (get_or-range_with_len a n k d small)) (g (a + k) (omega arith) (omega arith))

-- darts
dart_there : (n e s : ℕ) → 1 ≤ e → e ≤ edges n → s ≤ 1 → has_dart n (code 0 e s) ≡ true
unfolding code
dart_there n e s low high h = grind (arith, nat_tests)

edge_below : (n d : ℕ) → has_dart n d ≡ true → d / 2 ≤ edges n
edge_below n d h = let b : (2 ≤ d) × (d < 2 * edges n + 2) = grind (arith, nat_tests) in omega (arith, b)

next_below : GridIsMap → (n d : ℕ) → 1 ≤ n → has_dart n d ≡ true → next_in_grid n d / 2 ≤ edges n
next_below is_map n d le h = edge_below n (next_in_grid n d) ((is_map n le).next_live d ∙ h)

-- the rows of edges
edge_is_small : DartsAreInRange → GridIsMap → (n e : ℕ) → 1 ≤ n → n ≤ 200 → 1 ≤ e → e ≤ edges n → IsSmallEdge (row_of_edge n e)
edge_is_small in_range is_map n e le most low high =
    let p : has_dart n (code 0 e 0) ≡ true = dart_there n e 0 low high (omega arith) in
    let m : has_dart n (code 0 e 1) ≡ true = dart_there n e 1 low high (omega arith) in
    let there = in_range n (code 0 e 0) le p in
    let back = in_range n (code 0 e 1) le m in
    let nodes_few : nodes n ≤ 100000 = below (nodes n) 50000 100000 (few_nodes n most) (omega arith) in
    let faces_few : faces n ≤ 100000 = below (faces n) 50000 100000 (few_faces n most) (omega arith) in
    record {
      start_node = below (tail_in n (code 0 e 0)) (nodes n) 100000 there.tail.1 nodes_few;
      end_node = below (head_in n (code 0 e 0)) (nodes n) 100000 there.head.1 nodes_few;
      right_face = below (face_in n (code 0 e 0)) (faces n) 100000 there.face.1 faces_few;
      left_face = below (face_in n (code 0 e 1)) (faces n) 100000 back.face.1 faces_few;
      right_edge = below (next_in_grid n (code 0 e 0) / 2) (edges n) 100000 (next_below is_map n (code 0 e 0) le p) (few_edges n most);
      left_edge = below (next_in_grid n (code 0 e 1) / 2) (edges n) 100000 (next_below is_map n (code 0 e 1) le m) (few_edges n most);
    }

pub edges_are_small : DartsAreInRange → GridIsMap → (n : ℕ) → 1 ≤ n → n ≤ 200 → All IsSmallEdge (edge_rows n)
edges_are_small in_range is_map n le most =
    each_mapped IsSmallEdge (row_of_edge n) 1 (edges n) (λ e low high. edge_is_small in_range is_map n e le most low (omega arith))

-- the rows of faces and rings
pub faces_are_small : (n : ℕ) → n ≤ 200 → All IsGridNumber (face_rows n)
faces_are_small n h = let f = few_faces n h in each_numbered IsGridNumber 1 (faces n) (λ k low high. omega arith)

start_below : (r : ℕ) → 1 ≤ r → start_edge r ≤ r
unfolding start_edge
start_below r h = grind (arith, nat_tests)

pub rings_are_small : (n : ℕ) → n ≤ 200 → All IsSmallRingRow (ring_rows n)
rings_are_small n h =
    let f = few_faces n h in
    each_mapped IsSmallRingRow grid_ring_row 1 (faces n)
    (λ r low high. record { face_id = omega arith; start_edge = below (start_edge r) r 100000 (start_below r low) (omega arith) })

-- the rows of nodes
first_below : FirstEdgesAreLeast → (n k : ℕ) → 1 ≤ n → 1 ≤ k → k ≤ nodes n → first_edge n k ≤ edges n
first_below least n k le low high =
    let f = least n k le low high in
    subst (λ e. e ≤ edges n) f.of_edge (edge_below n f.dart f.there)

pub nodes_are_small : FirstEdgesAreLeast → (n : ℕ) → 1 ≤ n → n ≤ 200 → All IsGridNumber (node_rows n)
nodes_are_small least n le most =
    each_mapped IsGridNumber (first_edge n) 1 (nodes n)
    (λ k low high. below (first_edge n k) (edges n) 100000 (first_below least n k le low (omega arith)) (few_edges n most))

-- the home tiles
pub homes_are_small : FacesHaveTiles → (n : ℕ) → 1 ≤ n → n ≤ 200 → n % 2 ≡ 0 → All IsGridNumber (plan_rows n)
unfolding tiles faces
homes_are_small homes n le most even =
    each_mapped IsGridNumber (tile_of n) 2 (n * n)
    (λ f low high. below (tile_of n f) (tiles n) 100000 (homes n f le even low (omega arith)).1 (few_tiles n most))
