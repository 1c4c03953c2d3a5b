-- How much is present in a tile, and in all tiles together: each edge in two tiles at most, each face in one.
use Rattle.std.proofs.Common.{◌≡◌, ◌≤◌, ℕ, suc, zero, ◌+◌, ◌*◌, true, eqb, leb, not, ◌&&◌, ◌||◌, List, [], ◌∷◌, length, length-append, refl, arith, inl, inr}
use Rattle.std.specs.Prelude.{count_by, filter, flat_map}
use Rattle.std.proofs.lemmas.Bool.{and_parts, or_cases, or_left, or_right}
use Rattle.std.proofs.lemmas.List.{length-map}
use Rattle.std.proofs.lemmas.List.FromFn.{length-range_with_len}
use Rattle.std.proofs.lemmas.List.Sums.{count_by-le-length, length-filter}
use Rattle.vpf_darts.specs.Darts.{code, edge_in, flip}
use Rattle.vpf_prims.specs.Primitives.{Primitives, RingPrimitive}
use Rattle.vpf_prims.specs.References.{id_of}
use Rattle.vpf_wing.specs.Links.{row_darts}
use Rattle.vpf_tiling.specs.Presence.{face_of, has_edge, has_node, held_faces, holds_face, is_present, is_within, local_edge, local_face}
use Rattle.vpf_tiling.specs.Presence.{present_edges, present_nodes, tail_of, tile_map, untiled_links}
use Rattle.vpf_tiling.specs.Ranks.{is_least, leasts, up_to}
use Rattle.vpf_tiling.specs.Tiles.{face_rings, outer_darts, outer_rings, tiled_rings}
use Rattle.vpf_drill.proofs.tiled_sizes.Counting.{count_either, count_less, count_named, count_same, summed, summed_counts}

-- ---- where things are present

held_planned : (c : Primitives) (plan : ℕ → ℕ) (t f : ℕ) → holds_face c plan t f ≡ true → eqb (plan f) t ≡ true
held_planned c plan t f h = (and_parts (leb 2 f && leb f (length c.faces)) (eqb (plan f) t) h).1

within_planned : (c : Primitives) (plan : ℕ → ℕ) (t d : ℕ) → is_within c plan t d ≡ true → eqb (plan (face_of c d)) t ≡ true
within_planned c plan t d h =
    held_planned c plan t (face_of c d) (and_parts ((untiled_links c).has d) (holds_face c plan t (face_of c d)) h).1

present_planned : (c : Primitives) (plan : ℕ → ℕ) (t d : ℕ) → is_present c plan t d ≡ true
    → (eqb (plan (face_of c d)) t || eqb (plan (face_of c (flip d))) t) ≡ true
present_planned c plan t d h = elim (or_cases (is_within c plan t d) (is_within c plan t (flip d)) h) [
  | inl a ↦ or_left (eqb (plan (face_of c d)) t) (eqb (plan (face_of c (flip d))) t) (within_planned c plan t d a)
  | inr b ↦ or_right (eqb (plan (face_of c d)) t) (eqb (plan (face_of c (flip d))) t) (within_planned c plan t (flip d) b)
]

-- a dart is in at most two tiles
dart_twice : (c : Primitives) (plan : ℕ → ℕ) (tiles d : ℕ) → count_by (λ t. is_present c plan t d) (up_to tiles) ≤ 2
dart_twice c plan tiles d =
    let right = λ (t : ℕ). eqb (plan (face_of c d)) t in
    let left = λ (t : ℕ). eqb (plan (face_of c (flip d))) t in
    let less = count_less (λ t. is_present c plan t d) (λ t. right t || left t) (λ t. present_planned c plan t d) (up_to tiles) in
    let either = count_either right left (up_to tiles) in
    omega (arith, less, either, count_same (plan (face_of c d)) 1 tiles, count_same (plan (face_of c (flip d))) 1 tiles)

-- a face in one, which is no more
face_twice : (c : Primitives) (plan : ℕ → ℕ) (tiles f : ℕ) → count_by (λ t. holds_face c plan t f) (up_to tiles) ≤ 2
face_twice c plan tiles f =
    let less = count_less (λ t. holds_face c plan t f) (λ t. eqb (plan f) t) (λ t. held_planned c plan t f) (up_to tiles) in
    omega (arith, less, count_same (plan f) 1 tiles)

-- ---- how many there are

-- the darts of a tile, its edges and its faces without the universe
abbrev pub darts_in : Primitives → (ℕ → ℕ) → ℕ → ℕ
darts_in c plan t = count_by (is_present c plan t) (untiled_links c).darts

abbrev pub edges_in : Primitives → (ℕ → ℕ) → ℕ → ℕ
edges_in c plan t = count_by (has_edge c plan t) (up_to (length c.edges))

abbrev pub faces_in : Primitives → (ℕ → ℕ) → ℕ → ℕ
faces_in c plan t = count_by (holds_face c plan t) (up_to (length c.faces))

-- each face has one ring at most
abbrev pub HaveOneRing : Primitives → Type 0
HaveOneRing c = (f : ℕ) → count_by (λ (r : RingPrimitive). eqb (id_of r.face) f) c.rings ≤ 1

pub edges_many : (c : Primitives) (plan : ℕ → ℕ) (t : ℕ) → length (present_edges c plan t) ≡ edges_in c plan t
edges_many c plan t = length-filter (has_edge c plan t) (up_to (length c.edges))

pub faces_many : (c : Primitives) (plan : ℕ → ℕ) (t : ℕ) → length (held_faces c plan t) ≡ faces_in c plan t
faces_many c plan t = length-filter (holds_face c plan t) (up_to (length c.faces))

-- a node of a tile is the tail of a dart there
pub nodes_few : (c : Primitives) (plan : ℕ → ℕ) (t : ℕ) → length (present_nodes c plan t) ≤ darts_in c plan t
nodes_few c plan t =
    omega (
      arith,
      length-filter (has_node c plan t) (up_to (length c.nodes)),
      count_named (is_present c plan t) (tail_of c) (untiled_links c).darts 1 (length c.nodes),
    )

-- a ring of the universe begins at one
outer_few : (c : Primitives) (plan : ℕ → ℕ) (t : ℕ) → length (outer_rings c plan t) ≤ darts_in c plan t
outer_few c plan t =
    let all = (untiled_links c).darts in
    let darts = outer_darts c plan t in
    let test = λ (d : ℕ). is_present c plan t d && not (is_within c plan t d) in
    let next = (tile_map c plan t).next in
    let made : length (outer_rings c plan t) ≡ length (leasts next darts) =
    length-map (leasts next darts) (λ (d : ℕ). record { face = 1; edge = local_edge c plan t (edge_in d) }) in
    let least = length-filter (is_least next (length darts)) darts in
    let fewer = count_by-le-length (is_least next (length darts)) darts in
    let outer = length-filter test all in
    let less = count_less test (is_present c plan t) (λ d h. (and_parts (is_present c plan t d) (not (is_within c plan t d)) h).0) all in
    omega (arith, made, least, fewer, outer, less)

lists_few : {X : Type 0} (f : ℕ → List X) → ((n : ℕ) → length (f n) ≤ 1) → (ns : List ℕ) → length (flat_map f ns) ≤ length ns
lists_few f one [] = omega arith
lists_few f one (n ∷ ns) = omega (arith, length-append (f n) (flat_map f ns), one n, lists_few f one ns)

face_few : (c : Primitives) (plan : ℕ → ℕ) → HaveOneRing c → (t f : ℕ) → length (face_rings c plan t f) ≤ 1
face_few c plan one t f =
    let of = λ (r : RingPrimitive). eqb (id_of r.face) f in
    let made : length (face_rings c plan t f) ≡ length (filter of c.rings) =
    length-map (filter of c.rings) (λ (r : RingPrimitive). record { face = local_face c plan t f; edge = local_edge c plan t (id_of r.start_edge) }) in
    omega (arith, made, length-filter of c.rings, one f)

pub rings_few : (c : Primitives) (plan : ℕ → ℕ) → HaveOneRing c → (t : ℕ) → length (tiled_rings c plan t) ≤ darts_in c plan t + faces_in c plan t
rings_few c plan one t =
    let held = held_faces c plan t in
    let inner = lists_few (face_rings c plan t) (face_few c plan one t) held in
    omega (
      arith,
      length-append (outer_rings c plan t) (flat_map (face_rings c plan t) held),
      outer_few c plan t,
      inner,
      faces_many c plan t,
    )

-- ---- in one tile

row_darts_many : (n : ℕ) → length (row_darts 0 n) ≡ 2 * n
row_darts_many zero = refl
row_darts_many (suc n) = omega (arith, row_darts_many n, length-append (row_darts 0 n) (code 0 (suc n) 0 ∷ code 0 (suc n) 1 ∷ []))

darts_many : (c : Primitives) → length (untiled_links c).darts ≡ 2 * length c.edges
darts_many c = row_darts_many (length c.edges)

pub darts_few : (c : Primitives) (plan : ℕ → ℕ) (t : ℕ) → darts_in c plan t ≤ 2 * length c.edges
darts_few c plan t = omega (arith, count_by-le-length (is_present c plan t) (untiled_links c).darts, darts_many c)

pub edges_few : (c : Primitives) (plan : ℕ → ℕ) (t : ℕ) → edges_in c plan t ≤ length c.edges
edges_few c plan t = omega (arith, count_by-le-length (has_edge c plan t) (up_to (length c.edges)), length-range_with_len 1 (length c.edges))

pub faces_few : (c : Primitives) (plan : ℕ → ℕ) (t : ℕ) → faces_in c plan t ≤ length c.faces
faces_few c plan t = omega (arith, count_by-le-length (holds_face c plan t) (up_to (length c.faces)), length-range_with_len 1 (length c.faces))

-- ---- in all tiles

pub all_darts : (c : Primitives) (plan : ℕ → ℕ) (tiles : ℕ) → summed (darts_in c plan) (up_to tiles) ≤ 4 * length c.edges
all_darts c plan tiles =
    omega (arith, summed_counts (is_present c plan) (up_to tiles) (dart_twice c plan tiles) (untiled_links c).darts, darts_many c)

pub all_edges : (c : Primitives) (plan : ℕ → ℕ) (tiles : ℕ) → summed (edges_in c plan) (up_to tiles) ≤ 2 * length c.edges
all_edges c plan tiles =
    let twice = summed_counts (has_edge c plan) (up_to tiles) (λ e. dart_twice c plan tiles (code 0 e 0)) (up_to (length c.edges)) in
    omega (arith, twice, length-range_with_len 1 (length c.edges))

pub all_faces : (c : Primitives) (plan : ℕ → ℕ) (tiles : ℕ) → summed (faces_in c plan) (up_to tiles) ≤ 2 * length c.faces
all_faces c plan tiles =
    let twice = summed_counts (holds_face c plan) (up_to tiles) (face_twice c plan tiles) (up_to (length c.faces)) in
    omega (arith, twice, length-range_with_len 1 (length c.faces))
