-- The marks of edges, and the darts of the edges that are marked.
use Rattle.std.proofs.Common.{[], ◌≡◌, ◌≢◌, ℕ, zero, suc, ◌+◌, ◌-◌, ◌*◌, ◌/◌, ◌<◌, ◌≤◌, Bool, true, false, ◌||◌, ◌⊎◌, ◌==◌, List, ◌∷◌, length, get_or, refl, ap, ◌∙◌, sym, inl, inr, arith}
use Rattle.std.proofs.lemmas.Bool.{cases_eq, cases_lt, cases_Bool}
use Rattle.std.proofs.lemmas.Bool.Decides.{nat_tests}
use Rattle.std.specs.List.{AllByRecursion}
use Rattle.vpf_darts.specs.Darts.{code, flip}
use Rattle.vpf_darts.specs.Maps.{is_of, is_of_any}
use Rattle.vpf_darts.specs.MapLists.{is_among, edges_from, edges_of}
use Rattle.vpf_darts.proofs.DartLemmas.{untiled_code}
use Rattle.vpf_darts.proofs.NextLemmas.{among_within}
use Rattle.vpf_darts.specs.Inner.WithoutLaws.{of_cases}

pub not_either : (x a b : ℕ) → (x ≡ a) ⊎ (x ≡ b) → ((x == a) || (x == b)) ≡ false → ⊥
not_either x a b e f = grind (arith, nat_tests)

pub plus_or_minus : (k x : ℕ) → x / 2 ≡ k → (x ≡ code 0 k 0) ⊎ (x ≡ flip (code 0 k 0))
unfolding flip
plus_or_minus k x h = rw untiled_code (elim (cases_eq x (2 * k + 0)) [ inl e ↦ inl e | inr ne ↦ inr (omega arith) ])

pub half_of_plus : (k : ℕ) → code 0 k 0 / 2 ≡ k
half_of_plus k = omega (arith, untiled_code k 0)

pub half_of_minus : (k : ℕ) → flip (code 0 k 0) / 2 ≡ k
unfolding flip
half_of_minus k = omega (arith, untiled_code k 0)

pub of_half : (k x : ℕ) → x / 2 ≡ k → is_of flip (code 0 k 0) x ≡ true
of_half k x h = elim (cases_Bool (is_of flip (code 0 k 0) x)) [
  | inl t ↦ t
  | inr f ↦ absurd (not_either x (code 0 k 0) (flip (code 0 k 0)) (plus_or_minus k x h) f)
]

pub of_other_half : (k x : ℕ) → x / 2 ≢ k → is_of flip (code 0 k 0) x ≡ false
of_other_half k x h = elim (cases_Bool (is_of flip (code 0 k 0) x)) [
  | inr f ↦ f
  | inl t ↦ elim (of_cases flip (code 0 k 0) x t) [
    | inl e ↦ absurd (h (ap (λ v. v / 2) e ∙ half_of_plus k))
    | inr e ↦ absurd (h (ap (λ v. v / 2) e ∙ half_of_minus k))
  ]
]

pub none_below : (lines : List Bool) (k x : ℕ) → x / 2 < k → is_of_any flip (edges_from k lines) x ≡ false
none_below [] k x h = refl
none_below (true ∷ lines) k x h = rw (of_other_half k x (omega arith)) (none_below lines (k + 1) x (omega arith))
none_below (false ∷ lines) k x h = none_below lines (k + 1) x (omega arith)

pub marked_edge : (lines : List Bool) (k i x : ℕ) → x / 2 ≡ k + i → is_of_any flip (edges_from k lines) x ≡ get_or lines i false
marked_edge [] k i x h = refl
marked_edge (true ∷ lines) k zero x h = rw (of_half k x (omega arith)) refl
marked_edge (false ∷ lines) k zero x h = none_below lines (k + 1) x (omega arith)
marked_edge (true ∷ lines) k (suc i) x h = rw (of_other_half k x (omega arith)) (marked_edge lines (k + 1) i x (omega arith))
marked_edge (false ∷ lines) k (suc i) x h = marked_edge lines (k + 1) i x (omega arith)

-- a dart is of a marked edge exactly where its own edge is marked
pub is_of_marked : (lines : List Bool) (x : ℕ) → is_of_any flip (edges_of lines) x ≡ get_or (false ∷ lines) (x / 2) false
is_of_marked lines x = elim (cases_lt (x / 2) 1) [
  | inl lt ↦ (let e : x / 2 ≡ 0 = omega arith in none_below lines 1 x lt ∙ sym (ap (λ k. get_or (false ∷ lines) k false) e))
  | inr ge ↦ (let e : x / 2 ≡ suc (x / 2 - 1) = omega arith in marked_edge lines 1 (x / 2 - 1) x (omega arith) ∙ sym (ap (λ k. get_or (false ∷ lines) k false) e))
]

pub edges_from-among : (n : ℕ) (lines : List Bool) (k : ℕ) → 1 ≤ k → 2 * (k + length lines) ≤ n + 2 → AllByRecursion (λ e. is_among n e ≡ true) (edges_from k lines)
edges_from-among n [] k low high = tt
edges_from-among n (true ∷ lines) k low high = (let e = untiled_code k 0 in among_within n (code 0 k 0) (omega arith) (omega arith), edges_from-among n lines (k + 1) (omega arith) (omega arith))
edges_from-among n (false ∷ lines) k low high = edges_from-among n lines (k + 1) (omega arith) (omega arith)
