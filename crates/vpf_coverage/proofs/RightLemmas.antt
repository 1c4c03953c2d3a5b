-- The columns of all tiles, one tile after another.
use Rattle.std.proofs.Common.{◌≡◌, ℕ, zero, suc, Err, ◌+◌, ◌-◌, ◌<◌, Option, None, List, [], ◌∷◌, ◌++◌, length, get_or, inl, inr, refl, sym, ap, subst, ◌∙◌, arith}
use Rattle.std.proofs.lemmas.Bool.{cases_eq}
use Rattle.vpf_findings.specs.declared.errors.FindError.{FindError}
use Rattle.vpf_findings.specs.declared.errors.FindError.TheVariants as errors
use Rattle.vpf_findings.specs.Findings.{Disagreement, disagreement_of}
use Rattle.vpf_findings.specs.Firsts.{Tells, first_over}
use Rattle.vpf_findings.specs.Inner.FirstLaws.{over_stop}
use Rattle.vpf_prims.specs.declared.views.PrimitiveViews.{PrimitiveViews}
use Rattle.vpf_prims.specs.declared.views.TileColumns.{TileColumns}
use Rattle.vpf_prims.specs.Coverages.{last_tile, tile_at}
use Rattle.vpf_prims.specs.Libraries.{in_tile, in_tiles}
use Rattle.vpf_numbers.specs.Around.{around_of}
use Rattle.vpf_numbers.specs.TableLines.{coverage_numbers, numbers_finding}
use Rattle.vpf_coverage.specs.declared.opening.opening.OpenCoverage.{OpenCoverage}
use Rattle.vpf_coverage.specs.Inner.Opening.Opened.{opened_coverage}
use Rattle.vpf_coverage.specs.Inner.Opened.{AreAllRight, AreRightIn, HasCountedTiles, IsPlaced}
use Rattle.vpf_coverage.proofs.PlaceLemmas.{placed_length}

-- what is found in a tile
abbrev pub tile_line : OpenCoverage → ℕ → Option Disagreement
tile_line o t = in_tile (numbers_finding t (around_of (opened_coverage o))) (tile_at (opened_coverage o) t)

-- what is found in all is what is found in one after another
pub lines_whole : (o : OpenCoverage) → IsPlaced o → HasCountedTiles (opened_coverage o) → first_over (tile_line o) 0 (length o.tiles.items) ≡ coverage_numbers (opened_coverage o)
unfolding in_tiles
lines_whole o placed counted =
    let count : length (opened_coverage o).tiles ≡ length o.tiles.items = placed_length o.firsts.items o.tiles.items placed.alike in
    let whole : last_tile (opened_coverage o) + 1 ≡ length o.tiles.items = omega (arith, count, counted.tiles) in
    ap (first_over (tile_line o) 0) (sym whole)

put_at : {X : Type 0} (xs : List X) (x d : X) (k : ℕ) → k < length xs → get_or (xs ++ x ∷ []) k d ≡ get_or xs k d
put_at [] x d k h = absurd (omega arith)
put_at (y ∷ xs) x d zero h = refl
put_at (y ∷ xs) x d (suc k) h = put_at xs x d k (omega arith)

put_last : {X : Type 0} (xs : List X) (x d : X) → get_or (xs ++ x ∷ []) (length xs) d ≡ x
put_last [] x d = refl
put_last (y ∷ xs) x d = put_last xs x d

-- one more tile is right
pub right_more : (tiles : List (Option PrimitiveViews)) (columns more : List (Option TileColumns)) (t : ℕ) (here : Option TileColumns) → length columns ≡ t → more ≡ columns ++ here ∷ []
    → ((k : ℕ) → k < t → AreRightIn (get_or tiles k None) (get_or columns k None)) → AreRightIn (get_or tiles t None) here
    → (k : ℕ) → k < t + 1 → AreRightIn (get_or tiles k None) (get_or more k None)
right_more tiles columns more t here made pushed all last k below =
    elim (cases_eq k t) [
      | inl e ↦ subst (λ (n : ℕ). AreRightIn (get_or tiles n None) (get_or more n None)) (sym e)
          (subst (λ (c : Option TileColumns). AreRightIn (get_or tiles t None) c)
          (sym (ap (λ (xs : List (Option TileColumns)). get_or xs t None) pushed ∙ subst (λ (n : ℕ). get_or (columns ++ here ∷ []) n None ≡ here) made (put_last columns here None))) last)
      | inr ne ↦ subst (λ (c : Option TileColumns). AreRightIn (get_or tiles k None) c)
          (sym (ap (λ (xs : List (Option TileColumns)). get_or xs k None) pushed ∙ put_at columns here None k (omega (arith, made)))) (all k (omega arith))
    ]

-- tiles that are right by their numbers are all right
pub all_right : (tiles : List (Option PrimitiveViews)) (columns : List (Option TileColumns)) → length columns ≡ length tiles
    → ((k : ℕ) → k < length tiles → AreRightIn (get_or tiles k None) (get_or columns k None)) → AreAllRight tiles columns
all_right [] [] e h = tt
all_right [] (c ∷ columns) e h = absurd cc
all_right (v ∷ tiles) [] e h = absurd cc
all_right (v ∷ tiles) (c ∷ columns) e h = (h 0 (omega arith), all_right tiles columns (omega (arith, e)) (λ k below. h (suc k) (omega arith)))

-- what stops a call in a tile stops it in all
pub stops_all : (o : OpenCoverage) (t : ℕ) (e : FindError) (whole : Option Disagreement) → Tells {V = Unit {0}} (Err e) (tile_line o t) → t < length o.tiles.items
    → first_over (tile_line o) t (length o.tiles.items - t) ≡ whole → Tells {V = Unit {0}} (Err e) whole
stops_all o t (errors.Finding f) whole some below left = sym left ∙ over_stop (tile_line o) t (length o.tiles.items) (disagreement_of f) below some
stops_all o t errors.NoMemory whole h below left = tt

length_put : {X : Type 0} (xs : List X) (x : X) → length (xs ++ x ∷ []) ≡ length xs + 1
length_put [] x = refl
length_put (y ∷ xs) x = let r = length_put xs x in omega (arith, r)

-- one more is made
pub put_length : {X : Type 0} (xs more : List X) (x : X) → more ≡ xs ++ x ∷ [] → length more ≡ length xs + 1
put_length xs more x pushed = ap length pushed ∙ length_put xs x
