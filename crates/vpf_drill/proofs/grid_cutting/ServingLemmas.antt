-- Nothing speaks against the plan of the grid.
use Rattle.std.proofs.Common.{◌≡◌, ℕ, ◌/◌, ◌%◌, ◌^◌, ◌<◌, ◌≤◌, true, length, None, sym, ap, subst, ◌∙◌, arith}
use Rattle.std.proofs.lemmas.Nat.{mul-le}
use Rattle.std.proofs.lemmas.List.FromFn.{length-map-range_with_len}
use Rattle.vpf_darts.specs.Darts.{flip}
use Rattle.vpf_prims.specs.Primitives.{Primitives}
use Rattle.vpf_tiling.specs.Plans.{HasPlaces, IsPlan, IsTileable}
use Rattle.vpf_tiling.specs.Inner.Tileable.Laws.{RefusalsDecide}
use Rattle.vpf_tiling.specs.Tileable.Refusals.{first_refusal}
use Rattle.vpf_library_commands.specs.CutBy.{names_of_faces, plan_refusal}
use Rattle.vpf_vectors.specs.Inner.Cells.Laws.{FacesHaveTiles, NextsFit}
use Rattle.vpf_vectors.specs.Cells.Maps.{face_in, has_dart}
use Rattle.vpf_vectors.specs.Cells.Numbers.{edges, faces}
use Rattle.vpf_vectors.specs.Cells.Rows.{tile_of}
use Rattle.vpf_vectors.specs.Inner.GridCoverage.Coverage.{grid_edge, grid_face, grid_primitives}
use Rattle.vpf_vectors.specs.Inner.GridCoverage.Laws.{GridIsWellFormed}
use Rattle.vpf_vectors.specs.Inner.GridCoverage.DartLaws.{face-is, few_grid_edges as few_edges, flip_there, small_edges, there_only}
use Rattle.vpf_vectors.specs.Library.{TablesSayGrid, coverage_tables, tiles}
use Rattle.vpf_vectors.specs.Tables.{tile_cells}
use Rattle.vpf_drill.specs.GridCutting.Held.{cut_plan_grid, tileref_grid}
use Rattle.vpf_drill.specs.Inner.GridCutting.Plans.{grid_plan}
use Rattle.vpf_drill.proofs.grid_cutting.PlanLemmas.{plan_names}

few : (n : ℕ) → n ≤ 200 → length (grid_primitives n).edges < 2 ^ 24
few n most = subst (λ k. k < 2 ^ 24) (sym (length-map-range_with_len (grid_edge n) 1 (edges n))) (few_edges n most)

pub some_tiles : (n : ℕ) → 2 ≤ n → 1 ≤ tiles n
unfolding tiles
some_tiles n least = mul-le 1 1 (n / 2) (n / 2) (omega arith) (omega arith)

face_there : (n f : ℕ) → f ≤ length (grid_primitives n).faces → f ≤ faces n
face_there n f h = subst (λ k. f ≤ k) (length-map-range_with_len grid_face 1 (faces n)) h

-- the home tile of a face is one of the tiles
home_there : FacesHaveTiles → (n f : ℕ) → n % 2 ≡ 0 → 2 ≤ n → 2 ≤ f → f ≤ faces n → (1 ≤ tile_of n f) × (tile_of n f ≤ tiles n)
unfolding tiles
home_there homes n f even least low high = homes n f (omega arith) even low high

-- the plan names one for each face
plans : TablesSayGrid → FacesHaveTiles → (n : ℕ) → n % 2 ≡ 0 → 2 ≤ n → IsPlan (grid_primitives n) (grid_plan n) (tiles n)
plans say homes n even least = record {
  some = some_tiles n least;
  from_one = λ f low high.
      subst (λ t. 1 ≤ t) (sym (plan_names say n f low (face_there n f high))) (home_there homes n f even least low (face_there n f high)).0;
  to_last = λ f low high.
      subst (λ t. t ≤ tiles n) (sym (plan_names say n f low (face_there n f high))) (home_there homes n f even least low (face_there n f high)).1;
}

-- no edge has the universe on both sides, and there are no entity nodes
places : NextsFit → (n : ℕ) → 1 ≤ n → n ≤ 200 → HasPlaces (grid_primitives n)
places fit n least most = record {
  edges = λ d has one other.
      (let small = small_edges n most in
      let there : has_dart n d ≡ true = there_only n d has in
      let here : face_in n d ≡ 1 = sym (face-is n d small there) ∙ one in
      let beyond : face_in n (flip d) ≡ 1 = sym (face-is n (flip d) small (flip_there n d there)) ∙ other in
      (fit n d least there).sides (here ∙ sym beyond));
  entities = λ k row. absurd (omega (arith, row));
}

pub tileable : TablesSayGrid → FacesHaveTiles → NextsFit → GridIsWellFormed → (n : ℕ) → n % 2 ≡ 0 → 2 ≤ n → n ≤ 200
    → IsTileable (grid_primitives n) (grid_plan n) (tiles n)
tileable say homes fit well n even least most = record {
  few = few n most;
  well_formed = well n (omega arith) most;
  plans = plans say homes n even least;
  places = places fit n (omega arith) most;
}

-- so there is no cause against it
pub rows_are_tiles : (n : ℕ) → length (tileref_grid n).rows ≡ tiles n
rows_are_tiles n = length-map-range_with_len tile_cells 1 (tiles n)

pub serves : RefusalsDecide → TablesSayGrid → FacesHaveTiles → NextsFit → GridIsWellFormed → (n : ℕ) → n % 2 ≡ 0 → 2 ≤ n → n ≤ 200
    → plan_refusal (coverage_tables n) (cut_plan_grid n) (length (tileref_grid n).rows) ≡ None
serves decide say homes fit well n even least most =
    let c = tileable say homes fit well n even least most in
    ap (plan_refusal (coverage_tables n) (cut_plan_grid n)) (rows_are_tiles n)
    ∙ ap (λ (p : Primitives). first_refusal p (names_of_faces (coverage_tables n) (cut_plan_grid n)) (tiles n)) (say n)
    ∙ (decide (grid_primitives n) (names_of_faces (coverage_tables n) (cut_plan_grid n)) (tiles n) c.few (some_tiles n least)).1 (c.plans, c.places)
