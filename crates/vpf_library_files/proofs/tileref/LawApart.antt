-- No path is taken by an earlier tile exactly where no two tiles have the same.
use Rattle.std.proofs.Common.{[], ◌≡◌, ℕ, zero, suc, ◌-◌, ◌<◌, ◌≤◌, Bool, true, false, List, ◌∷◌, length, take, map, get_or, refl, sym, ◌∙◌, arith, inl, inr}
use Rattle.std.specs.Prelude.{◌↔◌}
use Rattle.std.specs.List.{list_any}
use Rattle.std.proofs.lemmas.Bool.{cases_lt}
use Rattle.std.proofs.lemmas.List.{get_or-map, get_or-take, length-take-le}
use Rattle.std.proofs.lemmas.List.Folds.{list_any_at}
use Rattle.vpf_base.proofs.Booleans.{clash, refuted}
use Rattle.vpf_prims.specs.Lists.{kth}
use Rattle.vpf_prims.specs.Numbering.{IsRowOf}
use Rattle.vpf_library_files.specs.Tileref.Paths.{TilePath, same_path}
use Rattle.vpf_library_files.specs.Tileref.Tileref.{is_taken}
use Rattle.vpf_library_files.specs.Inner.Tileref.PathLaws.{same_decides}

-- the place of an element that passes
place_behind : {X : Type 0} (p : X → Bool) (x : X) (xs : List X) (d : X)
    → list_any p (x ∷ xs) ≡ true → (list_any p xs ≡ true → (i : ℕ) × (i < length xs) × (p (get_or xs i d) ≡ true))
    → (i : ℕ) × (i < length (x ∷ xs)) × (p (get_or (x ∷ xs) i d) ≡ true)
place_behind {X} p x xs d h others = by (p x) refl
  where
    by : (b : Bool) → p x ≡ b → (i : ℕ) × (i < length (x ∷ xs)) × (p (get_or (x ∷ xs) i d) ≡ true)
    by true e = (zero, omega arith, e)
    by false e = let r = others (rw e at h) in (suc r.0, omega (arith, r.1), r.2)

any_place : {X : Type 0} (p : X → Bool) (xs : List X) (d : X) → list_any p xs ≡ true → (i : ℕ) × (i < length xs) × (p (get_or xs i d) ≡ true)
any_place p [] d h = absurd cc
any_place p (x ∷ xs) d h = place_behind p x xs d h (any_place p xs d)

-- an earlier tile with the path takes it
earlier_takes : (paths : List TilePath) (path : TilePath) (j k : ℕ) → 1 ≤ j → j < k → k ≤ length paths → kth paths j [] ≡ path → is_taken paths k path ≡ true
earlier_takes paths path zero k low less most is = absurd (omega arith)
earlier_takes paths path (suc i) k low less most is =
    let n = k - 1 in
    let few : n ≤ length paths = omega arith in
    let here : i < n = omega arith in
    let inside : i < length (take n paths) = omega (arith, length-take-le n paths few) in
    list_any_at (same_path path) (take n paths) i [] inside ((same_decides path (get_or (take n paths) i [])).1 (sym (get_or-take n paths i [] here ∙ is)))

-- a path that is taken is that of an earlier tile
taker : (paths : List TilePath) (path : TilePath) (k : ℕ) → k ≤ length paths → is_taken paths k path ≡ true
    → (j : ℕ) × (1 ≤ j) × (j < k) × (kth paths j [] ≡ path)
taker paths path k most taken =
    let n = k - 1 in
    let few : n ≤ length paths = omega arith in
    let r = any_place (same_path path) (take n paths) [] taken in
    let here : r.0 < n = omega (arith, r.1, length-take-le n paths few) in
    (suc r.0, omega arith, omega arith, sym (get_or-take n paths r.0 [] here) ∙ sym ((same_decides path (get_or (take n paths) r.0 [])).0 r.2))

-- no two tiles have the same path
abbrev pub AreApart : List TilePath → Type 0
AreApart paths = (j k : ℕ) → IsRowOf (length paths) j → IsRowOf (length paths) k → kth paths j [] ≡ kth paths k [] → j ≡ k

-- no tile's path is taken
abbrev pub AreFree : List TilePath → Type 0
AreFree paths = (k : ℕ) → IsRowOf (length paths) k → is_taken paths k (kth paths k []) ≡ false

free_apart : (paths : List TilePath) → AreFree paths → AreApart paths
free_apart paths free j k a b e =
    elim (cases_lt j k) [
      | inl less ↦ absurd (clash _ (earlier_takes paths (kth paths k []) j k a.0 less b.1 e) (free k b))
      | inr ge ↦ elim (cases_lt k j) [
        | inl more ↦ absurd (clash _ (earlier_takes paths (kth paths j []) k j b.0 more a.1 (sym e)) (free j a))
        | inr le ↦ omega arith
      ]
    ]

apart_free : (paths : List TilePath) → AreApart paths → AreFree paths
apart_free paths apart k l = refuted (is_taken paths k (kth paths k [])) (λ taken.
    let r = taker paths (kth paths k []) k l.1 taken in
    let same : r.0 ≡ k = apart r.0 k (r.1, omega (arith, r.2, l.1)) l r.3 in
    omega (arith, r.2, same))

pub free_decides : (paths : List TilePath) → AreFree paths ↔ AreApart paths
free_decides paths = (free_apart paths, apart_free paths)

-- rows by their numbers, before or after they are read
pub kth-map : {X Y : Type 0} (f : X → Y) (xs : List X) (k : ℕ) (d : X) (e : Y) → IsRowOf (length xs) k → kth (map f xs) k e ≡ f (kth xs k d)
kth-map f xs zero d e l = absurd (omega (arith, l.0))
kth-map f xs (suc i) d e l = get_or-map f xs i d e (omega (arith, l.1))
