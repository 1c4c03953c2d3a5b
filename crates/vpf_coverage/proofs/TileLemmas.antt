-- Tiles that are made one after another.
use Rattle.std.proofs.Common.{◌≡◌, ℕ, suc, ◌<◌, ◌^◌, Option, Some, None, List, [], ◌∷◌, ◌++◌, length, append_assoc, refl, sym, ap, subst, ◌∙◌, arith}
use Rattle.std.specs.Prelude.{All}
use Rattle.std.proofs.lemmas.List.Elements.{All-head, All-tail}
use Rattle.vpf_prims.specs.declared.views.PrimitiveViews.{PrimitiveViews}
use Rattle.vpf_prims.specs.declared.views.TileColumns.{TileColumns}
use Rattle.vpf_prims.specs.Tables.{TileTables}
use Rattle.vpf_coverage.specs.Inner.Opening.Opened.{placed_view, placed_views}
use Rattle.vpf_coverage.specs.Inner.Opened.{AreAllRight, AreRightIn}

placed_first : (first : ℕ) (firsts : List ℕ) (views : Option PrimitiveViews) (tiles : List (Option PrimitiveViews))
    → placed_views (first ∷ firsts) (views ∷ tiles) ≡ placed_view first views ∷ placed_views firsts tiles
placed_first first firsts None tiles = refl
placed_first first firsts (Some views) tiles = refl

-- one more is made
pub made_more : (made more : List (Option TileTables)) (fs firsts : List ℕ) (ts tiles : List (Option PrimitiveViews)) (first : ℕ) (views : Option PrimitiveViews) (tile : Option TileTables) (whole : List (Option TileTables))
    → made ++ placed_views fs ts ≡ whole → fs ≡ first ∷ firsts → ts ≡ views ∷ tiles → more ≡ made ++ tile ∷ [] → tile ≡ placed_view first views → more ++ placed_views firsts tiles ≡ whole
made_more made more fs firsts ts tiles first views tile whole left fs_is ts_is pushed is =
    ap (λ (xs : List (Option TileTables)). xs ++ placed_views firsts tiles) (pushed ∙ ap (λ (x : Option TileTables). made ++ x ∷ []) is)
    ∙ append_assoc made (placed_view first views ∷ []) (placed_views firsts tiles)
    ∙ ap (λ (xs : List (Option TileTables)). made ++ xs) (sym (placed_first first firsts views tiles))
    ∙ sym (ap (λ (xs : List ℕ). made ++ placed_views xs (views ∷ tiles)) fs_is)
    ∙ sym (ap (λ (xs : List (Option PrimitiveViews)). made ++ placed_views fs xs) ts_is)
    ∙ left

pub alike_rest : {X Y : Type 0} (xs rest : List X) (ys rest' : List Y) (x : X) (y : Y) → xs ≡ x ∷ rest → ys ≡ y ∷ rest' → length xs ≡ length ys → length rest ≡ length rest'
alike_rest xs rest ys rest' x y e f h =
    let a : length xs ≡ suc (length rest) = ap length e in
    let b : length ys ≡ suc (length rest') = ap length f in
    omega (arith, a, b, h)

-- the first of tiles that are right, and the others
pub right_both : (ts tiles : List (Option PrimitiveViews)) (cs columns : List (Option TileColumns)) (views : Option PrimitiveViews) (column : Option TileColumns)
    → ts ≡ views ∷ tiles → cs ≡ column ∷ columns → AreAllRight ts cs → AreRightIn views column × AreAllRight tiles columns
right_both ts tiles cs columns views column e f h =
    subst (λ (xs : List (Option TileColumns)). AreAllRight (views ∷ tiles) xs) f (subst (λ (xs : List (Option PrimitiveViews)). AreAllRight xs cs) e h)

pub few_both : (fs firsts : List ℕ) (first : ℕ) → fs ≡ first ∷ firsts → All (λ n. n < 2 ^ 31) fs → (first < 2 ^ 31) × All (λ n. n < 2 ^ 31) firsts
few_both fs firsts first e h =
    let all : All (λ n. n < 2 ^ 31) (first ∷ firsts) = subst (λ (xs : List ℕ). All (λ n. n < 2 ^ 31) xs) e h in
    (All-head (λ n. n < 2 ^ 31) first firsts all, All-tail (λ n. n < 2 ^ 31) first firsts all)
