-- The darts of a coverage, of which those before a dart are passed.
use Rattle.std.proofs.Common.{[], ◌≡◌, ℕ, zero, suc, ◌+◌, ◌-◌, ◌*◌, ◌<◌, ◌≤◌, Bool, true, Option, Some, None, List, ◌∷◌, ◌++◌, length, refl, ap, sym, ◌∙◌, arith, inl, inr, append-nil, append_assoc, eq-eqb, ne_eqb, length-append}
use Rattle.std.proofs.lemmas.Bool.{cases_Bool, cases_eq}
use Rattle.std.specs.Prelude.{All, find}
use Rattle.std.specs.Option.{option_or}
use Rattle.std.proofs.lemmas.List.Folds.{find-append}
use Rattle.vpf_darts.specs.Darts.{code}
use Rattle.vpf_wing.specs.Links.{DartLinks, row_darts, tile_darts}
use Rattle.vpf_follow.specs.Following.{follow, follows_to, first_home, is_home}
use Rattle.vpf_follow.specs.FollowLines.{earlier_home}
use Rattle.vpf_follow.specs.Inner.Homes.{darts_to}
use Rattle.vpf_follow.specs.Inner.ListLaws.{to_tile, to_end}

-- a list is the beginning of another
abbrev pub Begins : List ℕ → List ℕ → Type 0
Begins xs whole = (rest : List ℕ) × (xs ++ rest ≡ whole)

pub begins_self : (xs : List ℕ) → Begins xs xs
begins_self xs = ([], append-nil xs)

pub begins_more : (xs ys zs : List ℕ) → Begins xs ys → Begins xs (ys ++ zs)
begins_more xs ys zs b = (b.0 ++ zs, sym (append_assoc xs b.0 zs) ∙ ap (λ v. v ++ zs) b.1)

begins_both : (xs ys zs : List ℕ) → Begins ys zs → Begins (xs ++ ys) (xs ++ zs)
begins_both xs ys zs b = (b.0, append_assoc xs ys b.0 ∙ ap (λ v. xs ++ v) b.1)

pub begins_trans : (xs ys zs : List ℕ) → Begins xs ys → Begins ys zs → Begins xs zs
begins_trans xs ys zs a b = (a.0 ++ b.0, sym (append_assoc xs a.0 b.0) ∙ ap (λ v. v ++ b.0) a.1 ∙ b.1)

begins_rows : (t k n : ℕ) → k ≤ n → Begins (row_darts t k) (row_darts t n)
begins_rows t k zero h = let z : k ≡ zero = omega arith in rw z (begins_self [])
begins_rows t k (suc n) h = elim (cases_eq k (suc n)) [
  | inl e ↦ rw e (begins_self (row_darts t (suc n)))
  | inr ne ↦ begins_more (row_darts t k) (row_darts t n) _ (begins_rows t k n (omega arith))
]

begins_tiles : (edges : ℕ → ℕ) (t last : ℕ) → t ≤ last → Begins (tile_darts edges t) (tile_darts edges last)
begins_tiles edges t zero h = let z : t ≡ zero = omega arith in rw z (begins_self (row_darts 0 (edges 0)))
begins_tiles edges t (suc last) h = elim (cases_eq t (suc last)) [
  | inl e ↦ rw e (begins_self (tile_darts edges (suc last)))
  | inr ne ↦ begins_more (tile_darts edges t) (tile_darts edges last) _ (begins_tiles edges t last (omega arith))
]

begins_tile : (edges : ℕ → ℕ) (t k : ℕ) → k ≤ edges t → Begins (darts_to edges t k) (tile_darts edges t)
begins_tile edges zero k h = begins_rows 0 k (edges 0) h
begins_tile edges (suc t) k h = begins_both (tile_darts edges t) (row_darts (suc t) k) (row_darts (suc t) (edges (suc t)))
    (begins_rows (suc t) k (edges (suc t)) h)

-- the darts that were passed are the first of all
pub begins_all : (edges : ℕ → ℕ) (t k last : ℕ) → k ≤ edges t → t ≤ last → Begins (darts_to edges t k) (tile_darts edges last)
begins_all edges t k last h low = begins_trans (darts_to edges t k) (tile_darts edges t) (tile_darts edges last) (begins_tile edges t k h)
    (begins_tiles edges t last low)

-- how many darts were passed
length-rows : (t n : ℕ) → length (row_darts t n) ≡ 2 * n
length-rows t zero = refl
length-rows t (suc n) = omega (arith, length-append (row_darts t n) (code t (suc n) 0 ∷ code t (suc n) 1 ∷ []), length-rows t n)

length-to : (edges : ℕ → ℕ) (t : ℕ) → length (darts_to edges t 0) + 2 * edges t ≡ length (tile_darts edges t)
length-to edges zero = omega (arith, length-rows 0 (edges 0))
length-to edges (suc t) =
    let none : length (tile_darts edges t ++ []) ≡ length (tile_darts edges t) = ap length (append-nil (tile_darts edges t)) in
    omega (arith, none, length-append (tile_darts edges t) (row_darts (suc t) (edges (suc t))), length-rows (suc t) (edges (suc t)))

pub length-tiles : (edges : ℕ → ℕ) (t : ℕ) → length (darts_to edges (suc t) 0) ≡ length (darts_to edges t 0) + 2 * edges t
length-tiles edges t = ap length (to_tile edges t ∙ to_end edges t) ∙ sym (length-to edges t)

-- the first that passes is below what all are below
find_below : (p : ℕ → Bool) (n : ℕ) (xs : List ℕ) (x : ℕ) → All (λ y. y < n) xs → find p xs ≡ Some x → x < n
find_below p n [] x all is = absurd cc
find_below p n (y ∷ ys) x all is =
    let low : y < n = all 0 0 (omega arith) in
    let rest : All (λ z. z < n) ys = λ i d h. all (suc i) d (omega arith) in
    elim (cases_Bool (p y)) [
      | inl t ↦ (let some : find p (y ∷ ys) ≡ Some y = rw t refl in let same : y ≡ x = cc in rw (← same) low)
      | inr f ↦ (let later : find p (y ∷ ys) ≡ find p ys = rw f refl in find_below p n ys x rest (sym later ∙ is))
    ]

-- the first home dart that is followed as a home dart is: it, unless one was passed
pub first_here : (C : DartLinks) (before : List ℕ) (d e : ℕ) → Begins (before ++ d ∷ []) C.darts → All (λ x. x < d) before
    → is_home C d ≡ true → follow C d ≡ Some e → earlier_home d (first_home C (Some e)) ≡ find (follows_to C (Some e)) before
unfolding first_home
first_here C before d e begins below home is =
    let test : ℕ → Bool = follows_to C (Some e) in
    let passes : follows_to C (Some e) d ≡ true = rw (home, is) (eq-eqb e e refl) in
    let here : find test (d ∷ begins.0) ≡ Some d = rw passes refl in
    let whole : find test C.darts ≡ option_or (find test before) (Some d) =
    ap (find test) (sym begins.1 ∙ append_assoc before (d ∷ []) begins.0) ∙ find-append test before (d ∷ begins.0) ∙ ap (option_or (find test before)) here in
    ap (earlier_home d) whole ∙ by (find test before) refl
  where
    by : (o : Option ℕ) → find (follows_to C (Some e)) before ≡ o → earlier_home d (option_or o (Some d)) ≡ o
    by None none = rw (eq-eqb d d refl) refl
    by (Some x) some = rw (ne_eqb x d (λ same. let low : x < d = find_below (follows_to C (Some e)) d before x below some in omega arith)) refl
