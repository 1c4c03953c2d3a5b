-- What the rows of the grid say of each dart: its tile and its edge, its nodes, its face and its wing.
use Rattle.std.proofs.Common.{◌≡◌, ◌≢◌, ℕ, ◌+◌, ◌-◌, ◌*◌, ◌/◌, ◌%◌, ◌^◌, ◌<◌, ◌≤◌, Bool, true, false, ◌&&◌, nat_le, ap, subst, ◌∙◌, inl, inr, arith}
use Rattle.std.proofs.lemmas.Bool.{cases_Bool}
use Rattle.std.proofs.lemmas.Bool.Decides.{nat_tests}
use Rattle.std.proofs.lemmas.Nat.{mul-le}
use Rattle.std.proofs.lemmas.List.FromFn.{length-map-range_with_len}
use Rattle.vpf_darts.specs.Darts.{code, tile_in, edge_in, sign_in, flip}
use Rattle.vpf_darts.specs.MapLists.{is_among}
use Rattle.vpf_prims.specs.References.{id_of}
use Rattle.vpf_prims.specs.Lists.{kth}
use Rattle.vpf_prims.specs.Primitives.{absent_edge, tile_edges, edge_count}
use Rattle.vpf_wing.specs.Links.{edge_of_dart, face_by, is_minus}
use Rattle.vpf_vectors.specs.Cells.Numbers.{edges}
use Rattle.vpf_vectors.specs.Cells.Maps.{has_dart, face_in}
use Rattle.vpf_vectors.specs.Inner.GridCoverage.Coverage.{grid_edge, grid_library, grid_links}
use Rattle.vpf_vectors.specs.Inner.GridCoverage.RowLaws.{kth_row}

-- the parts of a number that is no greater than those of an untiled coverage
pub tile_zero : (d : ℕ) → d < 2 ^ 33 → tile_in d ≡ 0
unfolding tile_in
tile_zero d h = omega arith

pub edge_half : (d : ℕ) → d < 2 ^ 33 → edge_in d ≡ d / 2
unfolding edge_in
edge_half d h = omega arith

below_tile : (d : ℕ) → tile_in d ≡ 0 → d < 2 ^ 33
unfolding tile_in
below_tile d h = omega arith

-- the darts of m edges
pub among_parts : (m d : ℕ) → is_among (2 * m) d ≡ true → (1 ≤ d / 2) × (d / 2 ≤ m)
among_parts m d h = let b : (2 ≤ d) × (d < 2 * m + 2) = grind (arith, nat_tests) in (omega (arith, b), omega (arith, b))

among_from : (m d : ℕ) → 1 ≤ d / 2 → d / 2 ≤ m → is_among (2 * m) d ≡ true
among_from m d low high = let a : 2 ≤ d = omega arith in let b : d < 2 * m + 2 = omega arith in grind (arith, nat_tests)

abbrev pub test : ℕ → ℕ → ℕ → Bool
test m e t = nat_le 1 e && nat_le e m && nat_le t 0

test_parts : (m e t : ℕ) → test m e t ≡ true → (1 ≤ e) × (e ≤ m) × (t ≡ 0)
test_parts m e t h = grind (arith, nat_tests)

pub count_edges : (n : ℕ) → edge_count (grid_library n) 0 ≡ edges n
count_edges n = length-map-range_with_len (grid_edge n) 1 (edges n)

-- a grid of 200 cells a side has few edges
pub few_grid_edges : (n : ℕ) → n ≤ 200 → edges n < 2 ^ 24
unfolding edges
few_grid_edges n most = let m : n * (n + 1) ≤ 200 * 201 = mul-le n (n + 1) 200 201 most (omega arith) in omega arith

pub small_edges : (n : ℕ) → n ≤ 200 → edges n < 2 ^ 32
small_edges n most = let few : edges n < 2 ^ 24 = few_grid_edges n most in omega arith

-- a dart of the grid is below 2^33
pub small_grid : (n d : ℕ) → edges n < 2 ^ 32 → has_dart n d ≡ true → d < 2 ^ 33
small_grid n d few h = let b = among_parts (edges n) d h in omega (arith, b)

pub there_only : (n d : ℕ) → (grid_links n).has d ≡ true → has_dart n d ≡ true
there_only n d h =
    let p = test_parts (edge_count (grid_library n) (tile_in d)) (edge_in d) (tile_in d) h in
    let s : d < 2 ^ 33 = below_tile d p.2 in
    let e : edge_in d ≡ d / 2 = edge_half d s in
    let m : edge_count (grid_library n) (tile_in d) ≡ edges n = ap (edge_count (grid_library n)) p.2 ∙ count_edges n in
    among_from (edges n) d (subst (λ k. 1 ≤ k) e p.0) (subst (λ k. d / 2 ≤ k) m (subst (λ k. k ≤ edge_count (grid_library n) (tile_in d)) e p.1))

pub tile-is : (n d : ℕ) → edges n < 2 ^ 32 → has_dart n d ≡ true → tile_in d ≡ 0
tile-is n d few h = tile_zero d (small_grid n d few h)

pub edge-is : (n d : ℕ) → edges n < 2 ^ 32 → has_dart n d ≡ true → edge_in d ≡ d / 2
edge-is n d few h = edge_half d (small_grid n d few h)

-- the row of a dart's edge
pub row-is : (n d : ℕ) → edges n < 2 ^ 32 → has_dart n d ≡ true → edge_of_dart (grid_library n) d ≡ grid_edge n (d / 2)
row-is n d few h =
    let b = among_parts (edges n) d h in
    ap (λ t. kth (tile_edges (grid_library n) t) (edge_in d) absent_edge) (tile-is n d few h)
    ∙ ap (λ e. kth (tile_edges (grid_library n) 0) e absent_edge) (edge-is n d few h)
    ∙ kth_row (grid_edge n) (edges n) (d / 2) absent_edge b.0 b.1

-- the + dart and the - dart of an edge
pub plus_dart : (d : ℕ) → is_minus d ≡ false → code 0 (d / 2) 0 ≡ d
unfolding code sign_in
plus_dart d h = let e : d % 2 ≢ 1 = grind (arith, nat_tests) in omega arith

pub minus_dart : (d : ℕ) → is_minus d ≡ true → code 0 (d / 2) 1 ≡ d
unfolding code sign_in
minus_dart d h = let e : d % 2 ≡ 1 = grind (arith, nat_tests) in omega arith

pub flip_there : (n d : ℕ) → has_dart n d ≡ true → has_dart n (flip d) ≡ true
unfolding flip
flip_there n d h =
    let b = among_parts (edges n) d h in
    let e : (d + 1 - 2 * (d % 2)) / 2 ≡ d / 2 = omega arith in
    among_from (edges n) (d + 1 - 2 * (d % 2)) (omega (arith, b, e)) (omega (arith, b, e))

-- its face
pub face-is : (n d : ℕ) → edges n < 2 ^ 32 → has_dart n d ≡ true → ((grid_links n).face d).id ≡ face_in n d
face-is n d few h =
    ap (λ e. id_of (face_by (is_minus d) e)) (row-is n d few h)
    ∙ elim (cases_Bool (is_minus d)) [
      | inl t ↦ ap (λ b. id_of (face_by b (grid_edge n (d / 2)))) t ∙ ap (face_in n) (minus_dart d t)
      | inr f ↦ ap (λ b. id_of (face_by b (grid_edge n (d / 2)))) f ∙ ap (face_in n) (plus_dart d f)
    ]
