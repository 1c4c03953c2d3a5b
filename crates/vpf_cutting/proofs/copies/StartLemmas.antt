-- Where the pairs of a number begin among pairs that rise.
use Rattle.std.proofs.Common.{◌≡◌, ℕ, zero, suc, ◌+◌, ◌-◌, ◌<◌, ◌≤◌, true, false, ltb, cond, List, [], ◌∷◌, ◌++◌, length, map, get_or, sym, ap, zero-add, ◌∙◌, subst, inl, inr, arith}
use Rattle.std.specs.List.{range_with_len, slice_range}
use Rattle.std.specs.List.Sorted.{IsStrictlySortedBy, IsPartitionedBy, IsPartitionPoint}
use Rattle.std.proofs.lemmas.Bool.{ltb-true, lt-ltb, le-ltb, cases_lt}
use Rattle.std.proofs.lemmas.List.{get_or_past, get_or_default}
use Rattle.std.proofs.lemmas.List.FromFn.{length-map-range_with_len, get_or-map-range_with_len, map-range_with_len_more}
use Rattle.std.proofs.lemmas.List.Sums.{count_by-le-length}
use Rattle.std.proofs.lemmas.Map.Keys.{Less-from_sorted}
use Rattle.vpf_cutting.specs.Inner.Copies.Lists.{pair_cmp, AreStarts, list_at, lists_from}
use Rattle.vpf_cutting.proofs.copies.PairLemmas.{below_count, below_cons, first_le}

pub below_partitioned : (k : ℕ) (ps : List (ℕ × ℕ)) → IsStrictlySortedBy pair_cmp ps → IsPartitionedBy (λ (p : ℕ × ℕ). ltb p.0 k) ps
below_partitioned k ps s i j d le lt t = elim (cases_lt i j) [
  | inl below ↦ (
      let a : (get_or ps i d).0 ≤ (get_or ps j d).0 = first_le (get_or ps i d) (get_or ps j d) (Less-from_sorted pair_cmp ps i j d s below lt) in
      let b : (get_or ps j d).0 < k = ltb-true (get_or ps j d).0 k t in
      lt-ltb (get_or ps i d).0 k (omega arith))
  | inr above ↦ (let e : j ≡ i = omega arith in subst (λ z. ltb (get_or ps z d).0 k ≡ true) e t)
]

-- the point where a test turns is how many pass it
pub point_is : (k : ℕ) (ps : List (ℕ × ℕ)) (i : ℕ) → i ≤ length ps → IsPartitionPoint (λ (p : ℕ × ℕ). ltb p.0 k ≡ true) (λ (p : ℕ × ℕ). ltb p.0 k ≡ false) ps i → i ≡ below_count k ps
point_is k [] i b h = let z : i ≤ 0 = b in omega arith
point_is k (p ∷ ps) zero b h =
    let f : ltb p.0 k ≡ false = h.1 0 p (omega arith) (omega arith) in
    let rest : 0 ≡ below_count k ps = point_is k ps 0 (omega arith) (λ n d l m. absurd (omega arith), λ n d l m. h.1 (suc n) d (omega arith) (omega arith)) in
    rest ∙ sym (zero-add (below_count k ps)) ∙ sym (ap (λ b. cond b 1 0 + below_count k ps) f) ∙ sym (below_cons k p ps)
point_is k (p ∷ ps) (suc i) b h =
    let t : ltb p.0 k ≡ true = h.0 0 p (omega arith) (omega arith) in
    let rest : i ≡ below_count k ps = point_is k ps i (omega arith) (λ n d l m. h.0 (suc n) d (omega arith) (omega arith), λ n d l m. h.1 (suc n) d (omega arith) (omega arith)) in
    let s : suc i ≡ 1 + below_count k ps = omega arith in
    s ∙ sym (ap (λ b. cond b 1 0 + below_count k ps) t) ∙ sym (below_cons k p ps)

below_more : (k : ℕ) (ps : List (ℕ × ℕ)) → below_count k ps ≤ below_count (k + 1) ps
below_more k [] = omega arith
below_more k (p ∷ ps) =
    let r : below_count k ps ≤ below_count (k + 1) ps = below_more k ps in
    elim (cases_lt p.0 k) [
      | inl lt ↦ (
          let x : below_count k (p ∷ ps) ≡ 1 + below_count k ps = below_cons k p ps ∙ ap (λ b. cond b 1 0 + below_count k ps) (lt-ltb p.0 k lt) in
          let y : below_count (k + 1) (p ∷ ps) ≡ 1 + below_count (k + 1) ps = below_cons (k + 1) p ps ∙ ap (λ b. cond b 1 0 + below_count (k + 1) ps) (lt-ltb p.0 (k + 1) (omega arith)) in
          omega arith)
      | inr le ↦ (
          let x : below_count k (p ∷ ps) ≡ 0 + below_count k ps = below_cons k p ps ∙ ap (λ b. cond b 1 0 + below_count k ps) (le-ltb p.0 k le) in
          let y : below_count (k + 1) (p ∷ ps) ≡ cond (ltb p.0 (k + 1)) 1 0 + below_count (k + 1) ps = below_cons (k + 1) p ps in
          omega arith)
    ]

-- the starts don't fall
pub starts_are : (n : ℕ) (us : List (ℕ × ℕ)) (starts all : List ℕ) → starts ≡ map (λ k. below_count k us) (range_with_len 0 n) → length all ≡ length us → AreStarts starts (length all)
starts_are n us starts all e len k h =
    let m : length starts ≡ n = ap (λ (xs : List ℕ). length xs) e ∙ length-map-range_with_len (λ k. below_count k us) 0 n in
    let a : get_or starts k 0 ≡ below_count k us = ap (λ (xs : List ℕ). get_or xs k 0) e ∙ get_or-map-range_with_len (λ k. below_count k us) 0 n k k 0 (omega arith) (omega arith) in
    let b : get_or starts (k + 1) 0 ≡ below_count (k + 1) us = ap (λ (xs : List ℕ). get_or xs (k + 1) 0) e ∙ get_or-map-range_with_len (λ k. below_count k us) 0 n (k + 1) (k + 1) 0 (omega arith) (omega arith) in
    let c : below_count k us ≤ below_count (k + 1) us = below_more k us in
    let d : below_count (k + 1) us ≤ length us = count_by-le-length (λ (p : ℕ × ℕ). ltb p.0 (k + 1)) us in
    (omega arith, omega arith)

pub list_at_from : (starts all : List ℕ) (k : ℕ) → k + 1 < length starts → list_at (lists_from starts all) k ≡ slice_range all (get_or starts k 0) (get_or starts (k + 1) 0)
list_at_from starts all k h = get_or-map-range_with_len (λ k. slice_range all (get_or starts k 0) (get_or starts (k + 1) 0)) 0 (length starts - 1) k k [] (omega arith) (omega arith)

pub list_at_past : (starts all : List ℕ) (k : ℕ) → length starts ≤ k + 1 → list_at (lists_from starts all) k ≡ []
list_at_past starts all k h =
    let f : ℕ → List ℕ = λ k. slice_range all (get_or starts k 0) (get_or starts (k + 1) 0) in
    let e : length (map f (range_with_len 0 (length starts - 1))) ≡ length starts - 1 = length-map-range_with_len f 0 (length starts - 1) in
    get_or_past (map f (range_with_len 0 (length starts - 1))) k [] (omega arith)

pub starts_more : (us : List (ℕ × ℕ)) (k s : ℕ) (starts more : List ℕ) → more ≡ starts ++ s ∷ [] → s ≡ below_count k us → starts ≡ map (λ k. below_count k us) (range_with_len 0 k) → more ≡ map (λ k. below_count k us) (range_with_len 0 (k + 1))
starts_more us k s starts more e f h = e ∙ ap (λ xs. xs ++ s ∷ []) h ∙ ap (λ z. map (λ k. below_count k us) (range_with_len 0 k) ++ z ∷ []) f ∙ sym (map-range_with_len_more (λ k. below_count k us) 0 k k (omega arith))

pub at_is : (starts all d : List ℕ) (self : List (List ℕ)) (k a b : ℕ) → lists_from starts all ≡ self → k + 1 < length starts → a ≡ get_or starts k a → b ≡ get_or starts (k + 1) b → d ≡ all → slice_range d a b ≡ list_at self k
at_is starts all d self k a b v h ea eb ed =
    let za : a ≡ get_or starts k 0 = ea ∙ get_or_default starts k a 0 (omega arith) in
    let zb : b ≡ get_or starts (k + 1) 0 = eb ∙ get_or_default starts (k + 1) b 0 h in
    ap (λ (xs : List ℕ). slice_range xs a b) ed ∙ ap (λ x. slice_range all x b) za ∙ ap (slice_range all (get_or starts k 0)) zb ∙ sym (list_at_from starts all k h) ∙ ap (λ v. list_at v k) v
