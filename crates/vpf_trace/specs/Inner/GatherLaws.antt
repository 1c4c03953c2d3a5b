-- The home darts of the edges that are no lines, as they are gathered.
use Rattle.std.proofs.Common.{[], ◌≡◌, ℕ, ◌+◌, ◌<◌, sym, ap, ◌∙◌, inl, inr, arith, List, ◌∷◌, ◌++◌, length, get_or, length-append, suc, ◌^◌, ◌*◌, zero, subst, Bool, true, false, eqb, ◌&&◌, refl}
use Rattle.std.specs.List.{All, filter}
use Rattle.std.specs.List.Sorted.{IsStrictlyIncreasing}
use Rattle.std.proofs.lemmas.Bool.{cases_eq, cases_Bool, eqb-true}
use Rattle.std.proofs.lemmas.List.{get_or_append_left, get_or-append-add}
use Rattle.std.proofs.lemmas.List.Elements.{All-push}
use Rattle.vpf_darts.specs.Darts.{code}
use Rattle.vpf_cross.specs.FollowHomes.{darts_to}
use Rattle.vpf_cross.specs.ListLaws.{to_below, to_next, to_tile, to_end}
use Rattle.vpf_prims.specs.Primitives.{Library, edge_count}
use Rattle.vpf_wing.specs.Links.{links_of}
use Rattle.vpf_wing.specs.Inner.DartLaws.{stands_in}

pub rising_push : (xs : List ℕ) (a : ℕ) → IsStrictlyIncreasing xs → All (λ x. x < a) xs → IsStrictlyIncreasing (xs ++ a ∷ [])
rising_push xs a up below k h =
    let len = length-append xs (a ∷ []) in
    let before : get_or (xs ++ a ∷ []) k 0 ≡ get_or xs k 0 = get_or_append_left xs (a ∷ []) 0 k (omega arith) in
    elim (cases_eq (k + 1) (length xs)) [
      | inl last ↦ (
          let at : get_or (xs ++ a ∷ []) (length xs + 0) 0 ≡ a = get_or-append-add xs (a ∷ []) 0 0 in
          let here : length xs + 0 ≡ k + 1 = omega arith in
          let low : get_or xs k 0 < a = below k 0 (omega arith) in
          rw (before, sym (ap (λ n. get_or (xs ++ a ∷ []) n 0) here) ∙ at) low)
      | inr more ↦ (
          let in' : k + 1 < length xs = omega arith in
          rw (before, get_or_append_left xs (a ∷ []) 0 (k + 1) in') (up k in'))
    ]

pub no_rows : IsStrictlyIncreasing []
no_rows k h = absurd (omega arith)

pub below_both : (xs : List ℕ) (t k : ℕ) → All (λ x. x < code t (suc k) 0) xs → All (λ x. x < code t (suc k) 1) (xs ++ code t (suc k) 0 ∷ [])
unfolding code
below_both xs t k all =
    All-push (λ x. x < 2 * (2 ^ 32 * t + suc k) + 1) xs (2 * (2 ^ 32 * t + suc k) + 0)
    (λ i d h. (let low : get_or xs i d < 2 * (2 ^ 32 * t + suc k) + 0 = all i d h in omega arith)) (omega arith)

pub rows_rise : (edges : ℕ → ℕ) → ((s : ℕ) → edges s < 2 ^ 24) → (t : ℕ) → IsStrictlyIncreasing (darts_to edges t 0) → (k : ℕ) → IsStrictlyIncreasing (darts_to edges t k)
rows_rise edges few t base zero = base
rows_rise edges few t base (suc k) =
    let below = to_below edges t k few in
    subst IsStrictlyIncreasing (sym (to_next edges t k))
    (rising_push (darts_to edges t k ++ code t (suc k) 0 ∷ []) (code t (suc k) 1)
    (rising_push (darts_to edges t k) (code t (suc k) 0) (rows_rise edges few t base k) below)
    (below_both (darts_to edges t k) t k below))

pub tile_begins : (edges : ℕ → ℕ) → ((s : ℕ) → edges s < 2 ^ 24) → (t : ℕ) → IsStrictlyIncreasing (darts_to edges t 0)
tile_begins edges few zero = no_rows
tile_begins edges few (suc t) = subst IsStrictlyIncreasing (sym (to_tile edges t)) (rows_rise edges few t (tile_begins edges few t) (edges t))

pub darts_rise : (L : Library) → ((t : ℕ) → edge_count L t < 2 ^ 24) → IsStrictlyIncreasing (links_of L).darts
darts_rise L few =
    subst IsStrictlyIncreasing (to_end (edge_count L) L.last)
    (rows_rise (edge_count L) few L.last (tile_begins (edge_count L) few L.last) (edge_count L L.last))

pub stands_in_filter : (p : ℕ → Bool) (d : ℕ) (xs : List ℕ) → stands_in d (filter p xs) ≡ (p d && stands_in d xs)
stands_in_filter p d [] = sym (nothing (p d))
  where
    nothing : (b : Bool) → (b && false) ≡ false
    nothing true = refl
    nothing false = refl
stands_in_filter p d (x ∷ xs) = elim (cases_Bool (eqb d x)) [
  | inl same ↦ (
      let px : p x ≡ p d = ap p (sym (eqb-true d x same)) in
      elim (cases_Bool (p d)) [ inl t ↦ rw (px, t) (rw same refl) | inr f ↦ rw (px, f) (rw (stands_in_filter p d xs, f) refl) ])
  | inr other ↦ (elim (cases_Bool (p x)) [ inl t ↦ rw (t, other) (stands_in_filter p d xs) | inr f ↦ rw (f, other) (stands_in_filter p d xs) ])
]
