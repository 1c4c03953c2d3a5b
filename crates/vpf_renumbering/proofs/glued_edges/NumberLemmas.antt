-- Numbers that are put for the darts of lists, one list after the other.
use Rattle.std.proofs.Common.{[], ◌≡◌, ℕ, zero, suc, ◌+◌, ◌<◌, ◌≤◌, Bool, true, false, cond, eqb, ◌||◌, refl, sym, ap, ◌∙◌, subst, inl, inr, arith, List, ◌∷◌, ◌++◌, length, get_or, map, set, take, Some, get_or-set_same, get_or-set_other, length-set}
use Rattle.std.specs.Prelude.{slice_get}
use Rattle.std.specs.List.{concat}
use Rattle.std.proofs.lemmas.Bool.{cases_Bool, cases_eq, eq-eqb, ne_eqb}
use Rattle.std.proofs.lemmas.List.{get_or-map, length-map, take_more}
use Rattle.vpf_darts.specs.declared.darts.TileDart.{TileDart}
use Rattle.vpf_darts.specs.Cycles.{count_of}
use Rattle.vpf_darts.specs.Darts.{tile_dart_code}
use Rattle.vpf_darts.specs.Listings.{numbers_of}
use Rattle.vpf_wing.specs.Inner.DartLaws.{none_is_some, same_some, stands_in}
use Rattle.vpf_wing.specs.Inner.Kept.Kept.{place_among}
use Rattle.vpf_wing.specs.Inner.Kept.PlaceLaws.{at_place, stands_at}
use Rattle.vpf_cut_rings.specs.Inner.LeastLaws.{count_join, stands_counts}
use Rattle.vpf_renumbering.specs.Inner.GluedEdges.Numbers.{AreByFirst, ArePut, kept_for}
use Rattle.vpf_base.proofs.Booleans.{one_if}

-- ---- one number

-- two darts that stand in a list and have one place are one
place_apart : (order : List ℕ) (d x : ℕ) → stands_in d order ≡ true → stands_in x order ≡ true → place_among order d ≡ place_among order x → d ≡ x
place_apart order d x sd sx e = sym (at_place order d sd).1 ∙ ap (λ k. get_or order k 0) e ∙ (at_place order x sx).1

kept_after : (order numbers : List ℕ) (x number : ℕ) → length numbers ≡ length order → stands_in x order ≡ true → (d : ℕ) → stands_in d order ≡ true
    → kept_for order (set numbers (place_among order x) number) d ≡ cond (eqb d x) number (kept_for order numbers d)
kept_after order numbers x number one sx d sd = elim (cases_eq d x) [
  | inl e ↦ (
      let inside = (at_place order x sx).0 in
      let room : place_among order x < length numbers = omega arith in
      ap (λ v. kept_for order (set numbers (place_among order x) number) v) e ∙ get_or-set_same numbers (place_among order x) number 0 room
      ∙ sym (ap (λ b. cond b number (kept_for order numbers d)) (eq-eqb d x e)))
  | inr ne ↦
      get_or-set_other numbers (place_among order x) (place_among order d) number 0 (λ q. ne (place_apart order d x sd sx q))
      ∙ sym (ap (λ b. cond b number (kept_for order numbers d)) (ne_eqb d x ne))
]

-- ---- one list

stands_join : (d : ℕ) (xs ys : List ℕ) → stands_in d (xs ++ ys) ≡ (stands_in d xs || stands_in d ys)
stands_join d [] ys = refl
stands_join d (x ∷ xs) ys = ap (λ b. eqb d x || b) (stands_join d xs ys) ∙ grouped (eqb d x) (stands_in d xs) (stands_in d ys)
  where
    grouped : (a b c : Bool) → (a || (b || c)) ≡ ((a || b) || c)
    grouped true b c = refl
    grouped false b c = refl

either : (a b : Bool) (u v : ℕ) → cond a u (cond b u v) ≡ cond (b || (a || false)) u v
either true true u v = refl
either true false u v = refl
either false true u v = refl
either false false u v = refl

pub put_none : (order darts : List ℕ) (number : ℕ) (numbers : List ℕ) → ArePut order (take 0 darts) number numbers numbers
put_none order darts number numbers = record { one_each = refl; each = λ d s. refl }

pub put_more : (order darts : List ℕ) (number : ℕ) (old now new : List ℕ) (k x : ℕ) → k < length darts → get_or darts k 0 ≡ x → length old ≡ length order
    → stands_in x order ≡ true → ArePut order (take k darts) number old now → new ≡ set now (place_among order x) number
    → ArePut order (take (k + 1) darts) number old new
put_more order darts number old now new k x h at one sx p is = record {
  one_each = ap length is ∙ length-set now (place_among order x) number ∙ p.one_each;
  each = λ d sd.
      ap (λ ns. kept_for order ns d) is
      ∙ kept_after order now x number (p.one_each ∙ one) sx d sd
      ∙ ap (λ v. cond (eqb d x) number v) (p.each d sd)
      ∙ either (eqb d x) (stands_in d (take k darts)) number (kept_for order old d)
      ∙ ap (λ b. cond b number (kept_for order old d)) (sym (ap (stands_in d) (take_more darts k 0 h ∙ ap (λ v. take k darts ++ v ∷ []) at)
      ∙ stands_join d (take k darts) (x ∷ [])));
}

-- a dart of a list stands in it
pub dart_there : (darts : List TileDart) (i : ℕ) (none : TileDart) → i < length darts
    → stands_in (tile_dart_code (get_or darts i none)) (map tile_dart_code darts) ≡ true
dart_there darts i none h =
    let many : length (map tile_dart_code darts) ≡ length darts = length-map darts tile_dart_code in
    subst (λ v. stands_in v (map tile_dart_code darts) ≡ true) (get_or-map tile_dart_code darts i none 0 h) (stands_at (map tile_dart_code darts) i (omega arith))

-- ---- all lists

pub listed_is : (lists : List (List TileDart)) (i : ℕ) (darts : List TileDart) → slice_get lists i ≡ Some darts
    → get_or (numbers_of lists) i [] ≡ map tile_dart_code darts
listed_is [] i darts is = absurd (none_is_some darts is)
listed_is (l ∷ lists) zero darts is = ap (map tile_dart_code) (same_some l darts is)
listed_is (l ∷ lists) (suc i) darts is = listed_is lists i darts is

counts_in : (lists : List (List ℕ)) (i d : ℕ) → i < length lists → count_of d (get_or lists i []) ≤ count_of d (concat lists)
counts_in [] i d h = absurd (omega arith)
counts_in (l ∷ lists) zero d h = let e = count_join d l (concat lists) in omega arith
counts_in (l ∷ lists) (suc i) d h =
    let e = count_join d l (concat lists) in
    let r : count_of d (get_or lists i []) ≤ count_of d (concat lists) = counts_in lists i d (omega arith) in
    omega arith

counts_two : (lists : List (List ℕ)) (j i d : ℕ) → j < i → i < length lists
    → count_of d (get_or lists j []) + count_of d (get_or lists i []) ≤ count_of d (concat lists)
counts_two [] j i d lt h = absurd (omega arith)
counts_two (l ∷ lists) j zero d lt h = absurd (omega arith)
counts_two (l ∷ lists) zero (suc i) d lt h =
    let e = count_join d l (concat lists) in
    let r : count_of d (get_or lists i []) ≤ count_of d (concat lists) = counts_in lists i d (omega arith) in
    omega arith
counts_two (l ∷ lists) (suc j) (suc i) d lt h =
    let e = count_join d l (concat lists) in
    let r : count_of d (get_or lists j []) + count_of d (get_or lists i []) ≤ count_of d (concat lists) = counts_two lists j i d (omega arith) (omega arith) in
    omega arith

-- each dart of an order stands in lists once, and nothing else does
abbrev pub AreOnce : List ℕ → List (List ℕ) → Type 0
AreOnce order lists = (d : ℕ) → count_of d (concat lists) ≡ cond (stands_in d order) 1 0

-- a dart of a list is one of the order
pub of_order : (order : List ℕ) (lists : List (List ℕ)) → AreOnce order lists → (i d : ℕ) → i < length lists → stands_in d (get_or lists i []) ≡ true
    → stands_in d order ≡ true
of_order order lists once i d h s = elim (cases_Bool (stands_in d order)) [
  | inl t ↦ t
  | inr f ↦ (
      let one : 1 ≤ count_of d (get_or lists i []) = stands_counts d (get_or lists i []) s in
      let most : count_of d (get_or lists i []) ≤ count_of d (concat lists) = counts_in lists i d h in
      let none : count_of d (concat lists) ≡ 0 = once d ∙ ap one_if f in
      absurd (omega arith))
]

-- and of no other list
of_one : (order : List ℕ) (lists : List (List ℕ)) → AreOnce order lists → (j i d : ℕ) → j < i → i < length lists → stands_in d (get_or lists j []) ≡ true
    → stands_in d (get_or lists i []) ≡ false
of_one order lists once j i d lt h s = elim (cases_Bool (stands_in d (get_or lists i []))) [
  | inr f ↦ f
  | inl t ↦ (
      let here : 1 ≤ count_of d (get_or lists i []) = stands_counts d (get_or lists i []) t in
      let there : 1 ≤ count_of d (get_or lists j []) = stands_counts d (get_or lists j []) s in
      let both : count_of d (get_or lists j []) + count_of d (get_or lists i []) ≤ count_of d (concat lists) = counts_two lists j i d lt h in
      let most : one_if (stands_in d order) ≤ 1 = at_most (stands_in d order) in
      let is : count_of d (concat lists) ≡ one_if (stands_in d order) = once d in
      absurd (omega arith))
]
  where
    at_most : (b : Bool) → one_if b ≤ 1
    at_most true = omega arith
    at_most false = omega arith

pub by_none : (order : List ℕ) (lists : List (List ℕ)) (numbers : List ℕ) → length numbers ≡ length order → AreByFirst order lists 0 numbers
by_none order lists numbers one = record { one_each = one; each = λ i d h s. absurd (omega arith) }

pub by_more : (order : List ℕ) (lists : List (List ℕ)) → AreOnce order lists → (n : ℕ) (old new : List ℕ) → n < length lists
    → AreByFirst order lists n old → ArePut order (get_or lists n []) (n + 1) old new → AreByFirst order lists (n + 1) new
by_more order lists once n old new h b p = record {
  one_each = p.one_each ∙ b.one_each;
  each = λ i d lt s. elim (cases_eq i n) [
    | inl e ↦ (
        let s' : stands_in d (get_or lists n []) ≡ true = subst (λ k. stands_in d (get_or lists k []) ≡ true) e s in
        p.each d (of_order order lists once n d h s') ∙ ap (λ q. cond q (n + 1) (kept_for order old d)) s' ∙ ap (λ k. k + 1) (sym e))
    | inr ne ↦ (
        let before : i < n = omega arith in
        let inside : i < length lists = omega arith in
        p.each d (of_order order lists once i d inside s)
        ∙ ap (λ q. cond q (n + 1) (kept_for order old d)) (of_one order lists once i n d before h s)
        ∙ b.each i d before s)
  ];
}
