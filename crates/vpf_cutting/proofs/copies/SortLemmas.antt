-- Sorted pairs, each once.
use Rattle.std.proofs.Common.{◌≡◌, ℕ, ◌+◌, ◌-◌, ◌<◌, ◌≤◌, Bool, true, false, eqb, ◌&&◌, List, length, map, get_or, refl, sym, ap, ◌∙◌, arith, filter}
use Rattle.std.specs.Cmp.{IsTotalOrder, IsEquivalence}
use Rattle.std.specs.List.{range_with_len, slice_range, dedup, Contains}
use Rattle.std.specs.List.Sorted.{IsStrictlySortedBy}
use Rattle.std.specs.Ordering.{eq_by_cmp}
use Rattle.std.proofs.lemmas.Bool.{eqb-true, and_parts}
use Rattle.std.proofs.lemmas.Cmp.{nat_cmp_total, on_total, then_total, nat_eq_equiv, on_equiv, and_equiv}
use Rattle.std.proofs.lemmas.List.Folds.{Any-from_list_any, list_any-from_Any}
use Rattle.std.proofs.lemmas.List.FromFn.{length-map-range_with_len, get_or-map-range_with_len}
use Rattle.std.proofs.lemmas.List.Kept.{Contains-dedup, Contains-from_dedup}
use Rattle.std.proofs.lemmas.Bool.Decides.{nat_tests}
use Rattle.vpf_cutting.specs.Inner.Copies.Lists.{pair_cmp, is_pair, is_paired, lists_from, lists_by, StandWithin, Keeps}
use Rattle.vpf_cutting.specs.Inner.Copies.Presence.{is_one_of}
use Rattle.vpf_cutting.proofs.copies.RisingLemmas.{Inside, up_is, map_range, filter_range}
use Rattle.vpf_cutting.proofs.copies.PairLemmas.{below_count, seconds, seconds_range, seconds_up, seconds_in}

pub pairs_total : IsTotalOrder pair_cmp
pairs_total = then_total (on_total (λ (x : ℕ × ℕ). x.0) nat_cmp_total) (on_total (λ (x : ℕ × ℕ). x.1) nat_cmp_total)

abbrev pub same_pair : ℕ × ℕ → ℕ × ℕ → Bool
same_pair x y = eqb x.0 y.0 && eqb x.1 y.1

pub same_pair_equiv : IsEquivalence same_pair
same_pair_equiv = and_equiv (on_equiv (λ (x : ℕ × ℕ). x.0) nat_eq_equiv) (on_equiv (λ (x : ℕ × ℕ). x.1) nat_eq_equiv)

pub same_pair_is : (x y : ℕ × ℕ) → same_pair x y ≡ true → x ≡ y
same_pair_is x y h =
    let p = and_parts (eqb x.0 y.0) (eqb x.1 y.1) h in
    ap (λ a. let q : ℕ × ℕ = (a, x.1) in q) (eqb-true x.0 y.0 p.0) ∙ ap (λ b. let q : ℕ × ℕ = (y.0, b) in q) (eqb-true x.1 y.1 p.1)

same_Bools : (a b : Bool) → (a ≡ true → b ≡ true) → (b ≡ true → a ≡ true) → a ≡ b
same_Bools true b f g = sym (f refl)
same_Bools false true f g = g refl
same_Bools false false f g = refl

-- each kept once, the pairs are the same
pub paired-dedup : (ps : List (ℕ × ℕ)) (k i : ℕ) → is_paired (dedup same_pair ps) k i ≡ is_paired ps k i
paired-dedup ps k i = same_Bools (is_paired (dedup same_pair ps) k i) (is_paired ps k i) (λ h. down h) (λ h. up h)
  where
    of_any : (xs : List (ℕ × ℕ)) → is_paired xs k i ≡ true → (x : ℕ × ℕ) × Contains xs x × (is_pair k i x ≡ true)
    of_any xs h = let a = Any-from_list_any (is_pair k i) xs h in (a.1, (a.0, a.2, a.3), a.4)

    any_of : (xs : List (ℕ × ℕ)) (x : ℕ × ℕ) → Contains xs x → is_pair k i x ≡ true → is_paired xs k i ≡ true
    any_of xs x c t = list_any-from_Any (is_pair k i) xs (c.0, x, c.1, c.2, t)

    down : is_paired (dedup same_pair ps) k i ≡ true → is_paired ps k i ≡ true
    down h = let a = of_any (dedup same_pair ps) h in any_of ps a.0 (Contains-from_dedup same_pair ps a.0 a.1) a.2

    up : is_paired ps k i ≡ true → is_paired (dedup same_pair ps) k i ≡ true
    up h = let a = of_any ps h in any_of (dedup same_pair ps) a.0 (Contains-dedup same_pair_equiv same_pair_is ps a.0 a.1) a.2

-- the list of k: the part of the second numbers between the starts
pub list_is : (k most : ℕ) (ps us : List (ℕ × ℕ)) → IsStrictlySortedBy pair_cmp us → Keeps ps us → StandWithin ps most → slice_range (map (λ (p : ℕ × ℕ). p.1) us) (below_count k us) (below_count (k + 1) us) ≡ filter (is_paired ps k) (range_with_len 1 most)
list_is k most ps us s keeps w =
    let xs : List ℕ = seconds k us in
    let inside : Inside xs 1 most = λ i h. (let r = w k i (sym (keeps k i) ∙ sym (seconds_in k i us) ∙ h) in let lo : 1 ≤ i = r.0 in let hi : i ≤ most = r.1 in (omega arith, omega arith)) in
    seconds_range k us s ∙ up_is most 1 xs (seconds_up k us s) inside ∙ filter_range (is_one_of xs) (is_paired ps k) 1 most (λ i a b. seconds_in k i us ∙ keeps k i)

pub lists_are : (count most : ℕ) (ps us : List (ℕ × ℕ)) (starts all : List ℕ) → IsStrictlySortedBy pair_cmp us → Keeps ps us → StandWithin ps most → starts ≡ map (λ k. below_count k us) (range_with_len 0 (count + 2)) → all ≡ map (λ (p : ℕ × ℕ). p.1) us → lists_from starts all ≡ lists_by count most (is_paired ps)
unfolding lists_by
lists_are count most ps us starts all s keeps w es ea =
    let len : length starts ≡ count + 2 = ap (λ (xs : List ℕ). length xs) es ∙ length-map-range_with_len (λ k. below_count k us) 0 (count + 2) in
    let at : (k : ℕ) → k < count + 2 → get_or starts k 0 ≡ below_count k us = λ k h. ap (λ (xs : List ℕ). get_or xs k 0) es ∙ get_or-map-range_with_len (λ k. below_count k us) 0 (count + 2) k k 0 h (omega arith) in
    let f : ℕ → List ℕ = λ k. slice_range all (get_or starts k 0) (get_or starts (k + 1) 0) in
    let n : length starts - 1 ≡ count + 1 = omega arith in
    ap (λ m. map f (range_with_len 0 m)) n ∙ map_range f (λ k. filter (is_paired ps k) (range_with_len 1 most)) 0 (count + 1) (λ k a b.
    ap (λ (xs : List ℕ). slice_range xs (get_or starts k 0) (get_or starts (k + 1) 0)) ea ∙ ap (λ x. slice_range (map (λ (p : ℕ × ℕ). p.1) us) x (get_or starts (k + 1) 0)) (at k (omega arith)) ∙ ap (slice_range (map (λ (p : ℕ × ℕ). p.1) us) (below_count k us)) (at (k + 1) (omega arith)) ∙ list_is k most ps us s keeps w)

pub same_pair_ties : (x y : ℕ × ℕ) → same_pair x y ≡ eq_by_cmp pair_cmp x y
same_pair_ties x y = grind (arith, nat_tests)
