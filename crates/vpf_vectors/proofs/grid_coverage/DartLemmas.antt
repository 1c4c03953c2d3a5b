-- What the rows of the grid say of each dart: its tile and its edge, its nodes, its face and its wing.
use Rattle.std.proofs.Common.{◌≡◌, ℕ, ◌-◌, ◌/◌, ◌%◌, ◌^◌, ◌<◌, ◌≤◌, true, sym, ap, ◌∙◌, inl, inr, arith}
use Rattle.std.proofs.lemmas.Bool.{cases_Bool}
use Rattle.std.proofs.lemmas.Bool.Decides.{nat_tests}
use Rattle.vpf_darts.specs.Darts.{code, edge_in, sign_in, flip}
use Rattle.vpf_prims.specs.References.{id_of}
use Rattle.vpf_prims.specs.Primitives.{edge_count}
use Rattle.vpf_wing.specs.Links.{wing_by, node_by, is_minus, tail_node}
use Rattle.vpf_wing.specs.WellFormed.{IsDartOf}
use Rattle.vpf_vectors.specs.Cells.Numbers.{edges}
use Rattle.vpf_vectors.specs.Cells.Maps.{has_dart, next_in_grid, tail_in, head_in}
use Rattle.vpf_vectors.specs.Inner.GridCoverage.Coverage.{grid_edge, grid_library, grid_links}
use Rattle.vpf_vectors.proofs.grid_coverage.GridFacts.{GridFacts}
use Rattle.vpf_vectors.specs.Inner.GridCoverage.DartLaws.{there_only, count_edges, test, edge_half, flip_there, among_parts, minus_dart, plus_dart, row-is, small_grid as small, tile_zero}
use Rattle.vpf_vectors.proofs.cells.MapLemmas.{flip_flip}

test_from : (m e : ℕ) → 1 ≤ e → e ≤ m → test m e 0 ≡ true
test_from m e low high = grind (arith, nat_tests)

pub there : (n d : ℕ) → edges n < 2 ^ 32 → has_dart n d ≡ true → (grid_links n).has d ≡ true
there n d few h =
    let b = among_parts (edges n) d h in
    let s : d < 2 ^ 33 = small n d few h in
    ap (λ t. test (edge_count (grid_library n) t) (edge_in d) t) (tile_zero d s) ∙ ap (λ m. test m (edge_in d) 0) (count_edges n)
    ∙ ap (λ e. test (edges n) e 0) (edge_half d s)
    ∙ test_from (edges n) (d / 2) b.0 b.1

pub has-is : (n d : ℕ) → edges n < 2 ^ 32 → (grid_links n).has d ≡ has_dart n d
has-is n d few = elim (cases_Bool (has_dart n d)) [
  | inl t ↦ there n d few t ∙ sym t
  | inr f ↦ elim (cases_Bool ((grid_links n).has d)) [ inl t ↦ t ∙ sym (there_only n d t) | inr g ↦ g ∙ sym f ]
]

-- a dart of the one tile
pub is_dart : (n d : ℕ) → edges n < 2 ^ 32 → has_dart n d ≡ true → IsDartOf (grid_links n) 0 d
is_dart n d few h = record { has = there n d few h; tile = tile_zero d (small n d few h) }

pub plus_of_minus : (d : ℕ) → is_minus d ≡ true → code 0 (d / 2) 0 ≡ flip d
unfolding code sign_in flip
plus_of_minus d h = let e : d % 2 ≡ 1 = grind (arith, nat_tests) in omega arith

-- where a dart ends
pub node-is : (F : GridFacts) (n d : ℕ) → 1 ≤ n → edges n < 2 ^ 32 → has_dart n d ≡ true → ((grid_links n).node d).id ≡ head_in n d
node-is F n d le few h =
    ap (λ e. id_of (node_by (is_minus d) e)) (row-is n d few h)
    ∙ elim (cases_Bool (is_minus d)) [
      | inl t ↦ ap (λ b. id_of (node_by b (grid_edge n (d / 2)))) t ∙ ap (tail_in n) (plus_of_minus d t) ∙ (F.fit n d le h).back
      | inr f ↦ ap (λ b. id_of (node_by b (grid_edge n (d / 2)))) f ∙ ap (head_in n) (plus_dart d f)
    ]

-- where it begins
pub tail-is : (F : GridFacts) (n d : ℕ) → 1 ≤ n → edges n < 2 ^ 32 → has_dart n d ≡ true → tail_node (grid_links n) d ≡ tail_in n d
tail-is F n d le few h = let g = flip_there n d h in node-is F n (flip d) le few g ∙ sym (F.fit n (flip d) le g).back ∙ ap (tail_in n) (flip_flip d)

-- its wing
pub wing-is : (n d : ℕ) → edges n < 2 ^ 32 → has_dart n d ≡ true → ((grid_links n).wing d).id ≡ next_in_grid n d / 2
wing-is n d few h =
    ap (λ e. id_of (wing_by (is_minus d) e)) (row-is n d few h)
    ∙ elim (cases_Bool (is_minus d)) [
      | inl t ↦ ap (λ b. id_of (wing_by b (grid_edge n (d / 2)))) t ∙ ap (λ k. next_in_grid n k / 2) (minus_dart d t)
      | inr f ↦ ap (λ b. id_of (wing_by b (grid_edge n (d / 2)))) f ∙ ap (λ k. next_in_grid n k / 2) (plus_dart d f)
    ]
