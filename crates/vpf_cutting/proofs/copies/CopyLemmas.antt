-- Tables of a presence, and what is asked of them.
use std.Path.{fun_ext}
use Rattle.std.proofs.Common.{◌≡◌, ℕ, zero, suc, ◌+◌, ◌<◌, ◌≤◌, ◌^◌, Bool, true, false, eqb, ◌||◌, ◌&&◌, List, [], ◌∷◌, length, map, get_or, refl, sym, ap, ◌∙◌, subst, inl, inr, arith, filter, count_by, Some, None}
use Rattle.std.specs.List.{range_with_len}
use Rattle.std.proofs.lemmas.Bool.{cases_lt, false≢true, ne_eqb, or_from, cond-true, cond-false, false_from_ne_true}
use Rattle.std.proofs.lemmas.List.{get_or_past}
use Rattle.std.proofs.lemmas.List.FromFn.{length-range_with_len, length-map-range_with_len, get_or-map-range_with_len}
use Rattle.std.proofs.lemmas.List.Sums.{length-filter, count_by-le-length}
use Rattle.vpf_cutting.specs.Inner.Copies.Lists.{list_at, lists_by, is_pair, is_paired, AreNumbersWithin, StandWithin}
use Rattle.vpf_cutting.specs.Inner.Copies.Presence.{Presence, AreCopies, is_one_of, has, presence_of, items_in, tiles_of, local_number, rank_up_to}
use Rattle.vpf_cutting.proofs.copies.RisingLemmas.{up_is, filter_range}
use Rattle.vpf_cutting.proofs.copies.FilterLemmas.{in_filter, not_in_filter, IsFound, found}

pub table_at : (items tiles : ℕ) (test : ℕ → ℕ → Bool) (t : ℕ) → t ≤ tiles → list_at (lists_by tiles items test) t ≡ filter (test t) (range_with_len 1 items)
unfolding lists_by
table_at items tiles test t h = get_or-map-range_with_len (λ t. filter (test t) (range_with_len 1 items)) 0 (tiles + 1) t t [] (omega arith) (omega arith)

pub table_past : (items tiles : ℕ) (test : ℕ → ℕ → Bool) (t : ℕ) → tiles < t → list_at (lists_by tiles items test) t ≡ []
unfolding lists_by
table_past items tiles test t h =
    let f : ℕ → List ℕ = λ t. filter (test t) (range_with_len 1 items) in
    let e : length (map f (range_with_len 0 (tiles + 1))) ≡ tiles + 1 = length-map-range_with_len f 0 (tiles + 1) in
    get_or_past (map f (range_with_len 0 (tiles + 1))) t [] (omega arith)

none_is : (n : ℕ) → [] ≡ filter (is_one_of []) (range_with_len 1 n)
none_is n = up_is n 1 [] tt (λ i h. absurd (false≢true h))

pub filter_none : (p : ℕ → Bool) (n : ℕ) → ((k : ℕ) → p k ≡ false) → [] ≡ filter p (range_with_len 1 n)
filter_none p n h = none_is n ∙ filter_range (is_one_of []) p 1 n (λ k a b. sym (h k))

pub items_are : (p : Presence) (by_item : List (List ℕ)) → AreCopies p by_item → (t : ℕ) → list_at p.lists t ≡ items_in p t
items_are p by_item c t = elim (cases_lt p.tiles t) [
  | inl lt ↦ (
      let e : list_at p.lists t ≡ [] = ap (λ ls. list_at ls t) c.by_tile ∙ table_past p.items p.tiles (has p) t lt in
      e ∙ none_is p.items ∙ ap (λ xs. filter (is_one_of xs) (range_with_len 1 p.items)) (sym e))
  | inr le ↦ ap (λ ls. list_at ls t) c.by_tile ∙ table_at p.items p.tiles (has p) t le
]

pub tiles_are : (p : Presence) (by_item : List (List ℕ)) → AreCopies p by_item → (i : ℕ) → list_at by_item i ≡ tiles_of p i
tiles_are p by_item c i = elim (cases_lt p.items i) [
  | inl lt ↦ ap (λ ls. list_at ls i) c.turned ∙ table_past p.tiles p.items (λ i t. has p t i) i lt ∙ filter_none (λ t. has p t i) p.tiles (λ t. ap (λ xs. is_one_of xs i) (items_are p by_item c t) ∙ not_in_filter (has p t) p.items 1 i (inr (omega arith)))
  | inr le ↦ ap (λ ls. list_at ls i) c.turned ∙ table_at p.tiles p.items (λ i t. has p t i) i le
]

pub few_are : (p : Presence) (by_item : List (List ℕ)) → AreCopies p by_item → (t : ℕ) → length (list_at p.lists t) < 2 ^ 32
few_are p by_item c t =
    let few : p.items < 2 ^ 32 = c.few in
    let e : length (list_at p.lists t) ≡ count_by (has p t) (range_with_len 1 p.items) = ap (λ (xs : List ℕ). length xs) (items_are p by_item c t) ∙ length-filter (has p t) (range_with_len 1 p.items) in
    let l : count_by (has p t) (range_with_len 1 p.items) ≤ length (range_with_len 1 p.items) = count_by-le-length (has p t) (range_with_len 1 p.items) in
    let n : length (range_with_len 1 p.items) ≡ p.items = length-range_with_len 1 p.items in
    omega arith

-- ---- local numbers

pub local_found : (p : Presence) (t i k : ℕ) (xs : List ℕ) → xs ≡ items_in p t → k < length xs → get_or xs k 0 ≡ i → Some (k + 1) ≡ local_number p t i
local_found p t i k xs e h at =
    let f : IsFound (has p t) 1 k i = found (has p t) p.items 1 k i (subst (λ (ys : List ℕ). k < length ys) e h) (subst (λ (ys : List ℕ). get_or ys k 0 ≡ i) e at) in
    let r : rank_up_to (has p t) i ≡ k + 1 = f.rank i (omega arith) in
    sym (cond-true (has p t i) (Some (rank_up_to (has p t) i)) None f.passes ∙ ap (λ n. Some n) r)

not_in : (x i : ℕ) (xs : List ℕ) → ((k : ℕ) → k < i → get_or xs k 0 < x) → ((k : ℕ) → i ≤ k → k < length xs → x < get_or xs k 0) → is_one_of xs x ≡ false
not_in x i [] a b = refl
not_in x zero (y ∷ ys) a b = let gt : x < y = b 0 (omega arith) (omega arith) in or_from (eqb y x) (is_one_of ys x) (ne_eqb y x (λ e. absurd (omega arith))) (not_in x zero ys (λ k h. absurd (omega arith)) (λ k l h. b (suc k) (omega arith) (omega arith)))
not_in x (suc i) (y ∷ ys) a b = let lt : y < x = a 0 (omega arith) in or_from (eqb y x) (is_one_of ys x) (ne_eqb y x (λ e. absurd (omega arith))) (not_in x i ys (λ k h. a (suc k) (omega arith)) (λ k l h. b (suc k) (omega arith) (omega arith)))

pub local_absent : (p : Presence) (t i k : ℕ) (xs : List ℕ) → is_one_of xs i ≡ has p t i → ((j : ℕ) → j < k → get_or xs j 0 < i) → ((j : ℕ) → k ≤ j → j < length xs → i < get_or xs j 0) → None ≡ local_number p t i
local_absent p t i k xs e a b = sym (cond-false (has p t i) (Some (rank_up_to (has p t) i)) None (sym e ∙ not_in i k xs a b))

-- ---- the presence of a test

pub has_present : (items tiles : ℕ) (test : ℕ → ℕ → Bool) → AreNumbersWithin test tiles items → (t i : ℕ) → has (presence_of items tiles test) t i ≡ test t i
has_present items tiles test w t i = elim (cases_lt tiles t) [
  | inl lt ↦ ap (λ xs. is_one_of xs i) (table_past items tiles test t lt) ∙ sym (false_from_ne_true (test t i) (λ h. (let le : t ≤ tiles = (w t i h).1 in absurd (omega arith))))
  | inr le ↦ ap (λ xs. is_one_of xs i) (table_at items tiles test t le) ∙ elim (cases_lt i 1) [
    | inl below ↦ not_in_filter (test t) items 1 i (inl below) ∙ sym (false_from_ne_true (test t i) (λ h. (let l : 1 ≤ i = (w t i h).2 in absurd (omega arith))))
    | inr from ↦ elim (cases_lt items i) [
      | inl above ↦ not_in_filter (test t) items 1 i (inr (omega arith)) ∙ sym (false_from_ne_true (test t i) (λ h. (let l : i ≤ items = (w t i h).3 in absurd (omega arith))))
      | inr to ↦ in_filter (test t) items 1 i from (omega arith)
    ]
  ]
]

pub copies_are : (items tiles : ℕ) (test : ℕ → ℕ → Bool) (by_item : List (List ℕ)) → items < 2 ^ 32 → AreNumbersWithin test tiles items → by_item ≡ lists_by items tiles (λ i t. test t i) → AreCopies (presence_of items tiles test) by_item
copies_are items tiles test by_item few w e =
    let p : Presence = presence_of items tiles test in
    let same : test ≡ has p = fun_ext (λ t. fun_ext (λ i. sym (has_present items tiles test w t i))) in
    record {
      few = few;
      by_tile = ap (lists_by tiles items) same;
      turned = e ∙ ap (λ (h : ℕ → ℕ → Bool). lists_by items tiles (λ i t. h t i)) same;
      none = table_at items tiles test 0 (omega arith) ∙ sym (filter_none (test 0) items (λ k. false_from_ne_true (test 0 k) (λ h. (let l : 1 ≤ 0 = (w 0 k h).0 in absurd (omega arith)))));
    }

and_turned : (a b : Bool) → (a && b) ≡ (b && a)
and_turned true true = refl
and_turned true false = refl
and_turned false true = refl
and_turned false false = refl

pub paired_turned : (ps : List (ℕ × ℕ)) (i t : ℕ) → is_paired (map (λ (p : ℕ × ℕ). let q : ℕ × ℕ = (p.1, p.0) in q) ps) i t ≡ is_paired ps t i
paired_turned [] i t = refl
paired_turned (p ∷ ps) i t = ap (λ b. b || is_paired (map (λ (p : ℕ × ℕ). let q : ℕ × ℕ = (p.1, p.0) in q) ps) i t) (and_turned (eqb p.1 i) (eqb p.0 t)) ∙ ap (λ b. is_pair t i p || b) (paired_turned ps i t)

pub turned_are : (ps turned : List (ℕ × ℕ)) (tiles items : ℕ) → turned ≡ map (λ (p : ℕ × ℕ). let q : ℕ × ℕ = (p.1, p.0) in q) ps → lists_by items tiles (is_paired turned) ≡ lists_by items tiles (λ i t. is_paired ps t i)
turned_are ps turned tiles items e =
    let same : is_paired turned ≡ (λ i t. is_paired ps t i) = fun_ext (λ i. fun_ext (λ t. ap (λ xs. is_paired xs i t) e ∙ paired_turned ps i t)) in
    ap (lists_by items tiles) same

pub pairs_stand : (ps : List (ℕ × ℕ)) (tiles items : ℕ) → AreNumbersWithin (is_paired ps) tiles items → StandWithin ps items
pairs_stand ps tiles items w t i h = ((w t i h).2, (w t i h).3)

pub turned_stand : (ps turned : List (ℕ × ℕ)) (tiles items : ℕ) → turned ≡ map (λ (p : ℕ × ℕ). let q : ℕ × ℕ = (p.1, p.0) in q) ps → AreNumbersWithin (is_paired ps) tiles items → StandWithin turned tiles
turned_stand ps turned tiles items e w i t h =
    let r = w t i (sym (ap (λ xs. is_paired xs i t) e ∙ paired_turned ps i t) ∙ h) in
    (r.0, r.1)

-- what has an item is one of the tiles, and the item is one of the items
pub has_within : (p : Presence) (by_item : List (List ℕ)) → AreCopies p by_item → AreNumbersWithin (has p) p.tiles p.items
has_within p by_item c t i h =
    let from : 1 ≤ t = elim (cases_lt t 1) [
      | inl lt ↦ (let z : t ≡ 0 = omega arith in absurd (false≢true (sym (ap (λ xs. is_one_of xs i) (ap (list_at p.lists) z ∙ c.none)) ∙ h)))
      | inr le ↦ le
    ] in
    let to : t ≤ p.tiles = elim (cases_lt p.tiles t) [
      | inl lt ↦ absurd (false≢true (sym (ap (λ ls. is_one_of (list_at ls t) i) c.by_tile ∙ ap (λ xs. is_one_of xs i) (table_past p.items p.tiles (has p) t lt)) ∙ h))
      | inr le ↦ le
    ] in
    let e : has p t i ≡ is_one_of (items_in p t) i = ap (λ xs. is_one_of xs i) (items_are p by_item c t) in
    let first : 1 ≤ i = elim (cases_lt i 1) [
      | inl lt ↦ absurd (false≢true (sym (e ∙ not_in_filter (has p t) p.items 1 i (inl lt)) ∙ h))
      | inr le ↦ le
    ] in
    let last : i ≤ p.items = elim (cases_lt p.items i) [
      | inl lt ↦ absurd (false≢true (sym (e ∙ not_in_filter (has p t) p.items 1 i (inr (omega arith))) ∙ h))
      | inr le ↦ le
    ] in
    (from, to, first, last)

-- the tiles of an item are those that have it
pub tiles_have : (p : Presence) (by_item : List (List ℕ)) → AreCopies p by_item → (t i : ℕ) → is_one_of (tiles_of p i) t ≡ has p t i
tiles_have p by_item c t i = elim (cases_lt t 1) [
  | inl below ↦ not_in_filter (λ t. has p t i) p.tiles 1 t (inl below) ∙ sym (false_from_ne_true (has p t i) (λ h. (let l : 1 ≤ t = (has_within p by_item c t i h).0 in absurd (omega arith))))
  | inr from ↦ elim (cases_lt p.tiles t) [
    | inl above ↦ not_in_filter (λ t. has p t i) p.tiles 1 t (inr (omega arith)) ∙ sym (false_from_ne_true (has p t i) (λ h. (let l : t ≤ p.tiles = (has_within p by_item c t i h).1 in absurd (omega arith))))
    | inr to ↦ in_filter (λ t. has p t i) p.tiles 1 t from (omega arith)
  ]
]
