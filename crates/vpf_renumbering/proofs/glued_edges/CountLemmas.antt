-- The edges of a library, counted tile by tile by their + darts.
use Rattle.std.proofs.Common.{[], ◌≡◌, ℕ, zero, suc, ◌+◌, Bool, cond, eqb, refl, sym, ap, ◌∙◌, inl, inr, arith, List, ◌∷◌, ◌++◌, length, append-nil, length-append}
use Rattle.std.specs.Prelude.{filter}
use Rattle.std.proofs.lemmas.Bool.{cases_Bool}
use Rattle.std.proofs.lemmas.List.Elements.{filter-append}
use Rattle.vpf_darts.specs.Darts.{code, sign_in}
use Rattle.vpf_prims.specs.Primitives.{Library, edge_count}
use Rattle.vpf_wing.specs.Links.{links_of, row_darts, tile_darts}
use Rattle.vpf_wing.specs.Inner.DartLaws.{code-sign}
use Rattle.vpf_follow.specs.Following.{is_home}
use Rattle.vpf_follow.specs.Inner.Homes.{darts_to}
use Rattle.vpf_follow.specs.Inner.ListLaws.{to_end, to_tile}
use Rattle.vpf_tiling_laws.specs.Gluing.Whole.{whole_of}
use Rattle.vpf_tiling_laws.specs.Gluing.Glued.{plus_darts}
use Rattle.vpf_renumbering.specs.Inner.GluedEdges.Counting.{plus_count}

plus_join : (L : Library) (xs ys : List ℕ) → plus_count L (xs ++ ys) ≡ plus_count L xs + plus_count L ys
unfolding plus_count
plus_join L xs ys =
    let home : ℕ → Bool = is_home (links_of L) in
    let plus : ℕ → Bool = λ d. eqb (sign_in d) 0 in
    ap (λ v. length (filter plus v)) (filter-append home xs ys)
    ∙ ap length (filter-append plus (filter home xs) (filter home ys))
    ∙ length-append (filter plus (filter home xs)) (filter plus (filter home ys))

minus_none : (L : Library) (t k : ℕ) → plus_count L (code t k 1 ∷ []) ≡ 0
unfolding plus_count
minus_none L t k = elim (cases_Bool (is_home (links_of L) (code t k 1))) [
  | inl home ↦ rw home (ap (λ b. length (cond b (code t k 1 ∷ []) [])) (ap (λ s. eqb s 0) (code-sign t k 1 (omega arith))))
  | inr away ↦ rw away refl
]

plus_one : (L : Library) (t k : ℕ) → plus_count L (code t k 0 ∷ []) ≡ cond (is_home (links_of L) (code t k 0)) 1 0
unfolding plus_count
plus_one L t k = elim (cases_Bool (is_home (links_of L) (code t k 0))) [
  | inl home ↦ rw home (ap (λ b. length (cond b (code t k 0 ∷ []) [])) (ap (λ s. eqb s 0) (code-sign t k 0 (omega arith))))
  | inr away ↦ rw away refl
]

pub count_none : (L : Library) (t : ℕ) → 0 ≡ plus_count L (row_darts t 0)
unfolding plus_count
count_none L t = refl

-- one edge more of a tile
row_more : (L : Library) (t k : ℕ) → plus_count L (row_darts t (k + 1)) ≡ plus_count L (row_darts t k) + cond (is_home (links_of L) (code t (k + 1) 0)) 1 0
row_more L t k =
    let next : k + 1 ≡ suc k = omega arith in
    let both : plus_count L (code t (suc k) 0 ∷ code t (suc k) 1 ∷ []) ≡ cond (is_home (links_of L) (code t (suc k) 0)) 1 0 + 0 =
    plus_join L (code t (suc k) 0 ∷ []) (code t (suc k) 1 ∷ [])
    ∙ ap (λ n. n + plus_count L (code t (suc k) 1 ∷ [])) (plus_one L t (suc k))
    ∙ ap (λ n. cond (is_home (links_of L) (code t (suc k) 0)) 1 0 + n) (minus_none L t (suc k)) in
    rw next (plus_join L (row_darts t k) (code t (suc k) 0 ∷ code t (suc k) 1 ∷ []) ∙ ap (λ n. plus_count L (row_darts t k) + n) (both ∙ no_more _))
  where
    no_more : (n : ℕ) → n + 0 ≡ n
    no_more n = omega arith

-- which is counted where its + dart is a home dart
pub row_step : (L : Library) (t k count new : ℕ) (b : Bool) → is_home (links_of L) (code t (k + 1) 0) ≡ b → count ≡ plus_count L (row_darts t k)
    → new ≡ count + cond b 1 0 → new ≡ plus_count L (row_darts t (k + 1))
row_step L t k count new b home was is =
    is ∙ ap (λ n. n + cond b 1 0) was ∙ ap (λ v. plus_count L (row_darts t k) + cond v 1 0) (sym home) ∙ sym (row_more L t k)

to_rows : (edges : ℕ → ℕ) (t k : ℕ) → darts_to edges t k ≡ darts_to edges t 0 ++ row_darts t k
to_rows edges zero k = refl
to_rows edges (suc t) k = ap (λ xs. xs ++ row_darts (suc t) k) (sym (append-nil (tile_darts edges t)))

-- one tile more
pub tile_more : (L : Library) (t : ℕ)
    → plus_count L (darts_to (edge_count L) (t + 1) 0) ≡ plus_count L (darts_to (edge_count L) t 0) + plus_count L (row_darts t (edge_count L t))
tile_more L t =
    let next : t + 1 ≡ suc t = omega arith in
    rw next (ap (plus_count L) (to_tile (edge_count L) t ∙ to_rows (edge_count L) t (edge_count L t))
    ∙ plus_join L (darts_to (edge_count L) t 0) (row_darts t (edge_count L t)))

-- all tiles
pub count_all : (L : Library) → plus_count L (darts_to (edge_count L) (L.last + 1) 0) ≡ length (plus_darts (whole_of L))
unfolding plus_count
count_all L =
    let next : L.last + 1 ≡ suc L.last = omega arith in
    let home : ℕ → Bool = is_home (links_of L) in
    let plus : ℕ → Bool = λ d. eqb (sign_in d) 0 in
    ap (λ t. length (filter plus (filter home (darts_to (edge_count L) t 0)))) next
    ∙ ap (λ xs. length (filter plus (filter home xs))) (to_tile (edge_count L) L.last ∙ to_end (edge_count L) L.last)
