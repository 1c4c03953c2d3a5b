-- What loops over edges and items have put.
use std.Path.{fun_ext}
use Rattle.std.proofs.Common.{◌≡◌, ◌⊎◌, ℕ, zero, suc, ◌+◌, ◌<◌, ◌≤◌, Bool, true, false, not, eqb, leb, ◌||◌, ◌&&◌, List, [], ◌∷◌, ◌++◌, length, get_or, refl, sym, ap, ◌∙◌, subst, inl, inr, arith, add-one, filter}
use Rattle.std.specs.List.{list_any, range_with_len, All}
use Rattle.std.proofs.lemmas.Bool.{cases_eq, cases_lt, false≢true, eqb-true, and_parts, or_cases, le-leb, eq-eqb, eqb-false, or_left, or_right, not-true}
use Rattle.std.proofs.lemmas.List.{get_or_past}
use Rattle.std.proofs.lemmas.List.Folds.{list_any-append}
use Rattle.vpf_prims.specs.Lists.{kth}
use Rattle.vpf_cutting.specs.declared.copies.edges.EdgeNodes.{EdgeNodes}
use Rattle.vpf_cutting.specs.declared.copies.edges.EdgeTiles.{EdgeTiles}
use Rattle.vpf_cutting.specs.Inner.Copies.Lists.{AreNumbersWithin, is_paired}
use Rattle.vpf_cutting.specs.Inner.Copies.Placing.{AreNodes, AreTiles, has_end, is_at, is_beside, is_end, is_side, no_nodes, no_tiles}
use Rattle.vpf_cutting.specs.Inner.Copies.Presence.{AreCopies, Presence, has, is_one_of, presence_of, tiles_of}
use Rattle.vpf_cutting.proofs.copies.RisingLemmas.{Rises}
use Rattle.vpf_cutting.proofs.copies.FilterLemmas.{filter_up, in_filter, not_in_filter}
use Rattle.vpf_cutting.proofs.copies.CopyLemmas.{has_within, has_present}

-- ---- items by their numbers

pub kth_next : {X : Type 0} (xs : List X) (k : ℕ) (d : X) → kth xs (k + 1) d ≡ get_or xs k d
kth_next xs k d = ap (λ n. get_or (d ∷ xs) n d) (add-one k)

kth_all : {X : Type 0} (P : X → Type 0) (xs : List X) (i : ℕ) (d : X) → All P xs → 1 ≤ i → i ≤ length xs → P (kth xs i d)
kth_all P xs zero d all l h = absurd (omega arith)
kth_all P xs (suc i) d all l h = all i d (omega arith)

-- what isn't the one for none is one of the items
item_within : {X : Type 0} (xs : List X) (i : ℕ) (d : X) → (kth xs i d ≡ d → ⊥) → (1 ≤ i) × (i ≤ length xs)
item_within xs i d some = (
  elim (cases_lt i 1) [ inl lt ↦ (let z : i ≡ 0 = omega arith in absurd (some (ap (λ k. kth xs k d) z))) | inr le ↦ le ],
  elim (cases_lt (length xs) i) [ inl lt ↦ absurd (some (get_or_past (d ∷ xs) i d (omega arith))) | inr le ↦ le ],
)

from_one : (t : ℕ) → (t ≡ 0 → ⊥) → 1 ≤ t
from_one t some = elim (cases_eq t 0) [ inl e ↦ absurd (some e) | inr ne ↦ omega arith ]

-- where the loop ends, all are put
all_put : (b : Bool) (i k : ℕ) → (b ≡ true → i ≤ k) → (leb i k && b) ≡ b
all_put true i k h = ap (λ c. c && true) (le-leb i k (h refl))
all_put false i k h = none (leb i k)
  where
    none : (c : Bool) → (c && false) ≡ false
    none true = refl
    none false = refl

-- ---- the tiles beside edges

no_side : (t : ℕ) → is_side no_tiles t ≡ true → t ≡ 0
no_side t h = elim (or_cases (eqb 0 t) (eqb 0 t) h) [ inl e ↦ sym (eqb-true 0 t e) | inr e ↦ sym (eqb-true 0 t e) ]

record IsSideOf (sides : List EdgeTiles) (t i : ℕ) : Type 0 where
  some : 1 ≤ t
  side : is_side (kth sides i no_tiles) t ≡ true
  first : 1 ≤ i
  last : i ≤ length sides

beside_is : (sides : List EdgeTiles) (t i : ℕ) → is_beside sides t i ≡ true → IsSideOf sides t i
beside_is sides t i h =
    let parts = and_parts (not (eqb t 0)) (is_side (kth sides i no_tiles) t) h in
    let some : t ≡ 0 → ⊥ = eqb-false t 0 (not-true (eqb t 0) parts.0) in
    let within = item_within sides i no_tiles (λ e. some (no_side t (ap (λ s. is_side s t) (sym e) ∙ parts.1))) in
    record { some = from_one t some; side = parts.1; first = within.0; last = within.1 }

side_of : (s : EdgeTiles) (t : ℕ) → is_side s t ≡ true → (t ≡ s.left) ⊎ (t ≡ s.right)
side_of s t h = elim (or_cases (eqb s.left t) (eqb s.right t) h) [ inl e ↦ inl (sym (eqb-true s.left t e)) | inr e ↦ inr (sym (eqb-true s.right t e)) ]

-- behind the last edge, what is put is what is beside edges
pub edges_are : (sides : List EdgeTiles) (k : ℕ) (pairs : List (ℕ × ℕ)) → length sides ≤ k → ((t i : ℕ) → is_paired pairs t i ≡ (leb i k && is_beside sides t i)) → is_paired pairs ≡ is_beside sides
edges_are sides k pairs end h = fun_ext (λ t. fun_ext (λ i. h t i ∙ all_put (is_beside sides t i) i k (λ b. (let last : i ≤ length sides = (beside_is sides t i b).last in omega arith))))

pub edges_within : (sides : List EdgeTiles) (tiles : ℕ) → All (AreTiles tiles) sides → AreNumbersWithin (is_beside sides) tiles (length sides)
edges_within sides tiles all t i h =
    let b = beside_is sides t i h in
    let are : AreTiles tiles (kth sides i no_tiles) = kth_all (AreTiles tiles) sides i no_tiles all b.first b.last in
    let to : t ≤ tiles = elim (side_of (kth sides i no_tiles) t b.side) [ inl e ↦ subst (λ n. n ≤ tiles) (sym e) are.left | inr e ↦ subst (λ n. n ≤ tiles) (sym e) are.right ] in
    (b.some, to, b.first, b.last)

-- ---- at most two tiles

not_three : (a b x y z : ℕ) → x < y → y < z → (x ≡ a) ⊎ (x ≡ b) → (y ≡ a) ⊎ (y ≡ b) → (z ≡ a) ⊎ (z ≡ b) → ⊥
not_three a b x y z l m (inl p) (inl q) r = omega arith
not_three a b x y z l m (inr p) (inr q) r = omega arith
not_three a b x y z l m (inl p) (inr q) (inl r) = omega arith
not_three a b x y z l m (inl p) (inr q) (inr r) = omega arith
not_three a b x y z l m (inr p) (inl q) (inl r) = omega arith
not_three a b x y z l m (inr p) (inl q) (inr r) = omega arith

few_of_two : (a b : ℕ) (xs : List ℕ) → Rises xs → ((t : ℕ) → is_one_of xs t ≡ true → (t ≡ a) ⊎ (t ≡ b)) → length xs ≤ 2
few_of_two a b [] u h = omega arith
few_of_two a b (x ∷ []) u h = omega arith
few_of_two a b (x ∷ y ∷ []) u h = omega arith
few_of_two a b (x ∷ y ∷ z ∷ xs) u h =
    let xy : x < y = u.0.0 in
    let yz : y < z = u.1.0.0 in
    let hx : (x ≡ a) ⊎ (x ≡ b) = h x (or_left (eqb x x) (is_one_of (y ∷ z ∷ xs) x) (eq-eqb x x refl)) in
    let hy : (y ≡ a) ⊎ (y ≡ b) = h y (or_right (eqb x y) (is_one_of (y ∷ z ∷ xs) y) (or_left (eqb y y) (is_one_of (z ∷ xs) y) (eq-eqb y y refl))) in
    let hz : (z ≡ a) ⊎ (z ≡ b) = h z (or_right (eqb x z) (is_one_of (y ∷ z ∷ xs) z) (or_right (eqb y z) (is_one_of (z ∷ xs) z) (or_left (eqb z z) (is_one_of xs z) (eq-eqb z z refl)))) in
    absurd (not_three a b x y z xy yz hx hy hz)

-- what is in a filter of a range passes its test
passes_in : (test : ℕ → Bool) (n t : ℕ) → is_one_of (filter test (range_with_len 1 n)) t ≡ true → test t ≡ true
passes_in test n t h = elim (cases_lt t 1) [
  | inl lt ↦ absurd (false≢true (sym (not_in_filter test n 1 t (inl lt)) ∙ h))
  | inr from ↦ elim (cases_lt n t) [
    | inl above ↦ absurd (false≢true (sym (not_in_filter test n 1 t (inr (omega arith))) ∙ h))
    | inr to ↦ sym (in_filter test n 1 t from (omega arith)) ∙ h
  ]
]

pub two_tiles : (sides : List EdgeTiles) (tiles i : ℕ) → All (AreTiles tiles) sides → length (tiles_of (presence_of (length sides) tiles (is_beside sides)) i) ≤ 2
two_tiles sides tiles i all =
    let p : Presence = presence_of (length sides) tiles (is_beside sides) in
    let s : EdgeTiles = kth sides i no_tiles in
    few_of_two s.left s.right (tiles_of p i) (filter_up (λ t. has p t i) tiles 1) (λ t h. (
    let there : is_beside sides t i ≡ true = sym (has_present (length sides) tiles (is_beside sides) (edges_within sides tiles all) t i) ∙ passes_in (λ t. has p t i) tiles t h in
    side_of s t (beside_is sides t i there).side))

-- ---- the tiles of items that have one

record IsPlaceOf (places : List ℕ) (t i : ℕ) : Type 0 where
  some : 1 ≤ t
  place : kth places i 0 ≡ t
  first : 1 ≤ i
  last : i ≤ length places

at_is_place : (places : List ℕ) (t i : ℕ) → is_at places t i ≡ true → IsPlaceOf places t i
at_is_place places t i h =
    let parts = and_parts (not (eqb t 0)) (eqb (kth places i 0) t) h in
    let some : t ≡ 0 → ⊥ = eqb-false t 0 (not-true (eqb t 0) parts.0) in
    let place : kth places i 0 ≡ t = eqb-true (kth places i 0) t parts.1 in
    let within = item_within places i 0 (λ e. some (sym place ∙ e)) in
    record { some = from_one t some; place = place; first = within.0; last = within.1 }

-- behind the last item, what is put is where items are
pub places_are : (places : List ℕ) (k : ℕ) (pairs : List (ℕ × ℕ)) → length places ≤ k → ((t i : ℕ) → is_paired pairs t i ≡ (leb i k && is_at places t i)) → is_paired pairs ≡ is_at places
places_are places k pairs end h = fun_ext (λ t. fun_ext (λ i. h t i ∙ all_put (is_at places t i) i k (λ b. (let last : i ≤ length places = (at_is_place places t i b).last in omega arith))))

-- ---- the nodes at the ends of edges

range_more : (n a j : ℕ) → a + n ≡ j → range_with_len a (suc n) ≡ range_with_len a n ++ j ∷ []
range_more zero a j e = let s : a ≡ j = omega arith in ap (λ (x : ℕ). x ∷ []) s
range_more (suc n) a j e = ap (λ (xs : List ℕ). a ∷ xs) (range_more n (a + 1) j (omega arith))

any_more : (q : ℕ → Bool) (n j : ℕ) → n + 1 ≡ j → list_any q (range_with_len 1 (n + 1)) ≡ (list_any q (range_with_len 1 n) || q j)
any_more q n j e = ap (λ m. list_any q (range_with_len 1 m)) (add-one n) ∙ ap (list_any q) (range_more n 1 j (omega arith)) ∙ list_any-append q (range_with_len 1 n) (j ∷ []) ∙ or_last (list_any q (range_with_len 1 n)) (q j)
  where
    or_last : (a b : Bool) → (a || (b || false)) ≡ (a || b)
    or_last true b = refl
    or_last false true = refl
    or_last false false = refl

any_of : (q : ℕ → Bool) (n a : ℕ) → list_any q (range_with_len a n) ≡ true → (e : ℕ) × (a ≤ e) × (e < a + n) × (q e ≡ true)
any_of q zero a h = absurd (false≢true h)
any_of q (suc n) a h = elim (or_cases (q a) (list_any q (range_with_len (a + 1) n)) h) [
  | inl t ↦ (a, omega arith, omega arith, t)
  | inr r ↦ (let x = any_of q n (a + 1) r in let l : a + 1 ≤ x.0 = x.1 in let m : x.0 < a + 1 + n = x.2 in (x.0, omega arith, omega arith, x.3))
]

end_within : (s : EdgeNodes) (v nodes : ℕ) → AreNodes nodes s → is_end s v ≡ true → (1 ≤ v) × (v ≤ nodes)
end_within s v nodes are h = elim (or_cases (eqb s.start v) (eqb s.end v) h) [
  | inl e ↦ (let same = eqb-true s.start v e in (subst (λ n. 1 ≤ n) same are.from_start, subst (λ n. n ≤ nodes) same are.to_start))
  | inr e ↦ (let same = eqb-true s.end v e in (subst (λ n. 1 ≤ n) same are.from_end, subst (λ n. n ≤ nodes) same are.to_end))
]

-- the nodes that edges begin or end at are within
pub ends_within : (p : Presence) (by_item : List (List ℕ)) (ends : List EdgeNodes) (nodes : ℕ) → AreCopies p by_item → length ends ≡ p.items → All (AreNodes nodes) ends → AreNumbersWithin (has_end p ends) p.tiles nodes
ends_within p by_item ends nodes c len all t v h =
    let x = any_of (λ e. has p t e && is_end (kth ends e no_nodes) v) p.items 1 h in
    let parts = and_parts (has p t x.0) (is_end (kth ends x.0 no_nodes) v) x.3 in
    let within = has_within p by_item c t x.0 parts.0 in
    let hi : x.0 < 1 + p.items = x.2 in
    let are : AreNodes nodes (kth ends x.0 no_nodes) = kth_all (AreNodes nodes) ends x.0 no_nodes all x.1 (omega arith) in
    let node = end_within (kth ends x.0 no_nodes) v nodes are parts.1 in
    (within.0, within.1, node.0, node.1)

-- what the edges up to k put, and one more
pub ends_step : (p : Presence) (ends : List EdgeNodes) (t v k : ℕ) (old new one : Bool) → new ≡ (old || (one && is_end (get_or ends k no_nodes) v)) → one ≡ has p t (k + 1) → old ≡ list_any (λ e. has p t e && is_end (kth ends e no_nodes) v) (range_with_len 1 k) → new ≡ list_any (λ e. has p t e && is_end (kth ends e no_nodes) v) (range_with_len 1 (k + 1))
ends_step p ends t v k old new one h g i =
    let q : ℕ → Bool = λ e. has p t e && is_end (kth ends e no_nodes) v in
    h ∙ ap (λ b. b || (one && is_end (get_or ends k no_nodes) v)) i ∙ ap (λ b. list_any q (range_with_len 1 k) || (b && is_end (get_or ends k no_nodes) v)) g ∙ ap (λ s. list_any q (range_with_len 1 k) || (has p t (k + 1) && is_end s v)) (sym (kth_next ends k no_nodes)) ∙ sym (any_more q k (k + 1) refl)

-- behind the last edge, what is put is where edges end
pub ends_are : (p : Presence) (ends : List EdgeNodes) (k : ℕ) (pairs : List (ℕ × ℕ)) → k ≡ p.items → ((t v : ℕ) → is_paired pairs t v ≡ list_any (λ e. has p t e && is_end (kth ends e no_nodes) v) (range_with_len 1 k)) → is_paired pairs ≡ has_end p ends
ends_are p ends k pairs all h = fun_ext (λ t. fun_ext (λ v. h t v ∙ ap (λ n. list_any (λ e. has p t e && is_end (kth ends e no_nodes) v) (range_with_len 1 n)) all))
