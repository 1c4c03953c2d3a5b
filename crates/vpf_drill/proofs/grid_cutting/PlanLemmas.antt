-- The plan of the grid names its home tile for each face but the universe.
use Rattle.std.proofs.Common.{◌≡◌, ℕ, zero, suc, ◌+◌, ◌*◌, ◌<◌, ◌≤◌, false, true, length, map, Some, None, pos, refl, ap, ◌∙◌, inl, inr, arith}
use Rattle.std.specs.Prelude.{◌==◌}
use Rattle.std.specs.List.{enumerate_from, range_with_len}
use Rattle.std.proofs.lemmas.Bool.{cases_eq}
use Rattle.std.proofs.lemmas.Bool.Decides.{nat_tests}
use Rattle.std.proofs.lemmas.List.FromFn.{length-map-range_with_len}
use Rattle.vpf_prims.specs.Columns.{id_column}
use Rattle.vpf_prims.specs.Primitives.{Primitives}
use Rattle.vpf_prims.specs.Reading.{primitives_of}
use Rattle.vpf_tiling.specs.Plan.Named.{named_in, named_tile}
use Rattle.vpf_tiling.specs.Plan.Plans.{tile_column}
use Rattle.vpf_tiling.specs.Tileable.Planning.{named_for, planned_tile}
use Rattle.vpf_vectors.specs.Cells.Numbers.{faces}
use Rattle.vpf_vectors.specs.Cells.Rows.{tile_of}
use Rattle.vpf_vectors.specs.Inner.GridCoverage.Coverage.{grid_face}
use Rattle.vpf_vectors.specs.Inner.GridCoverage.RowLaws.{kth_row}
use Rattle.vpf_vectors.specs.Heads.{plan_head}
use Rattle.vpf_vectors.specs.Library.{TablesSayGrid, coverage_tables}
use Rattle.vpf_vectors.specs.Tables.{pair_cells}
use Rattle.vpf_drill.specs.GridCutting.Held.{cut_plan_grid}
use Rattle.vpf_drill.specs.Inner.GridCutting.Plans.{PlanNamesTiles}

-- the first row whose id is the face names its number
names_from : (g : ℕ → ℕ) (a m f : ℕ) → a ≤ f → f < a + m
    → named_in (id_column plan_head.columns) (tile_column plan_head.columns) f (map pair_cells (enumerate_from a (map g (range_with_len a m)))) ≡ Some (pos (g f))
names_from g a zero f low high = absurd (omega arith)
names_from g a (suc m) f low high = elim (cases_eq a f) [
  | inl e ↦ (let t : (a == f) ≡ true = grind (arith, nat_tests) in rw t (ap (λ k. Some (pos (g k))) e))
  | inr ne ↦ (let u : (a == f) ≡ false = grind (arith, nat_tests) in rw u (names_from g (a + 1) m f (omega arith) (omega arith)))
]

named : (n f : ℕ) → 2 ≤ f → f ≤ faces n → named_tile (cut_plan_grid n) f ≡ Some (pos (tile_of n f))
unfolding faces
named n f low high = names_from (tile_of n) 2 (n * n) f low (omega arith)

-- there are as many faces as the grid has
count_faces : TablesSayGrid → (n : ℕ) → length (primitives_of (coverage_tables n)).faces ≡ faces n
count_faces say n = ap (λ (c : Primitives). length c.faces) (say n) ∙ length-map-range_with_len grid_face 1 (faces n)

no_universe : (f k : ℕ) → 2 ≤ f → planned_tile f (Some (pos k)) ≡ k
no_universe f k low = let u : (f == 1) ≡ false = grind (arith, nat_tests) in rw u refl

pub plan_names : TablesSayGrid → PlanNamesTiles
plan_names say n f low high =
    ap (λ k. planned_tile f (named_for (map (named_tile (cut_plan_grid n)) (range_with_len 1 k)) f)) (count_faces say n)
    ∙ ap (planned_tile f) (kth_row (named_tile (cut_plan_grid n)) (faces n) f None (omega arith) high ∙ named n f low high)
    ∙ no_universe f (tile_of n f) low
