-- The lists that a map is made of, as the map of the edges.
use Rattle.std.proofs.Common.{◌≡◌, ℕ, zero, suc, ◌+◌, ◌-◌, ◌*◌, ◌≤◌, true, false, None, List, [], ◌∷◌, length, map, get_or, refl, sym, subst, ◌∙◌, arith, inl, inr}
use Rattle.std.specs.Prelude.{slice_get}
use std.Path.{fun_ext}
use Rattle.std.proofs.lemmas.Bool.{cases_lt, cases_Bool}
use Rattle.std.proofs.lemmas.Bool.Decides.{nat_tests}
use Rattle.vpf_darts.specs.declared.darts.Dart.{Dart}
use Rattle.vpf_darts.specs.Darts.{dart_code}
use Rattle.vpf_darts.specs.Cycles.{IsListing}
use Rattle.vpf_darts.specs.Maps.{IsMap}
use Rattle.vpf_darts.specs.MapLists.{is_among, list_next}
use Rattle.vpf_darts.specs.Inner.Ranks.{IsRanking}
use Rattle.vpf_prims.specs.declared.rows.Edge.{Edge}
use Rattle.vpf_wing.specs.Nexts.{AreNexts}
use Rattle.vpf_wing.specs.Boundaries.{number_or, next_number, map_of}
use Rattle.vpf_wing.proofs.MapLemmas.{among, inside}

numbers_at : (nexts : List Dart) (i d : ℕ) → get_or (map dart_code nexts) i d ≡ number_or (slice_get nexts i) d
numbers_at [] i d = refl
numbers_at (x ∷ xs) zero d = refl
numbers_at (x ∷ xs) (suc i) d = numbers_at xs i d

get_past : (nexts : List Dart) (i : ℕ) → length nexts ≤ i → slice_get nexts i ≡ None
get_past [] i h = refl
get_past (x ∷ xs) zero h = absurd (omega arith)
get_past (x ∷ xs) (suc i) h = get_past xs i (omega arith)

among_not : (n d : ℕ) → n + 2 ≤ d → is_among n d ≡ false
among_not n d h = grind (arith, nat_tests)

-- the nexts of the lists are those of the edges
pub nexts_are : (edges : List Edge) (nexts : List Dart) → AreNexts edges nexts → (d : ℕ) → list_next nexts d ≡ next_number edges d
unfolding next_number
nexts_are edges nexts are zero = refl
nexts_are edges nexts are (suc zero) = refl
nexts_are edges nexts are (suc (suc i)) = elim (cases_lt i (length nexts)) [
  | inl lt ↦ (
      let yes : is_among (2 * length edges) (suc (suc i)) ≡ true = among (2 * length edges) (suc (suc i)) (omega arith) (omega (arith, are.count)) in
      let e : suc (suc i) - 2 ≡ i = omega arith in
      numbers_at nexts i (suc (suc i)) ∙ rw (yes, e, are.each i lt) refl)
  | inr ge ↦ (
      let no : is_among (2 * length edges) (suc (suc i)) ≡ false = among_not (2 * length edges) (suc (suc i)) (omega (arith, are.count)) in
      numbers_at nexts i (suc (suc i)) ∙ rw (no, get_past nexts i ge) refl)
]

-- the listing of the nexts is that of the edges
pub listed : (edges : List Edge) (nexts : List Dart) (lists : List (List ℕ)) → AreNexts edges nexts → IsListing (list_next nexts) (is_among (length nexts)) lists → IsListing (map_of edges).next (map_of edges).live lists
listed edges nexts lists are h =
    let en : list_next nexts ≡ next_number edges = fun_ext (nexts_are edges nexts are) in
    let first : IsListing (next_number edges) (is_among (length nexts)) lists = subst (λ (f : ℕ → ℕ). IsListing f (is_among (length nexts)) lists) en h in
    subst (λ (n : ℕ). IsListing (next_number edges) (is_among n) lists) are.count first

-- the nexts of a map permute its darts
pub ranking : (edges : List Edge) (nexts : List Dart) → AreNexts edges nexts → IsMap (map_of edges) → IsRanking (length nexts + 2) (list_next nexts) (is_among (length nexts))
ranking edges nexts are m =
    let en : next_number edges ≡ list_next nexts = sym (fun_ext (nexts_are edges nexts are)) in
    let e : 2 * length edges ≡ length nexts = sym are.count in
    let whole : IsRanking (2 * length edges + 2) (next_number edges) (is_among (2 * length edges)) = record {
      apart = m.next_apart;
      inside = λ d lt. elim (cases_Bool (is_among (2 * length edges) d)) [
        | inl in' ↦ (inside (2 * length edges) (next_number edges d) (m.next_live d ∙ in')).1
        | inr out ↦ rw (m.next_dead d out) lt
      ];
      outside = λ d le. m.next_dead d (among_not (2 * length edges) d le);
      next_live = m.next_live;
      live_inside = λ d l. (inside (2 * length edges) d l).1;
    } in
    let named : IsRanking (2 * length edges + 2) (list_next nexts) (is_among (2 * length edges)) = subst (λ (f : ℕ → ℕ). IsRanking (2 * length edges + 2) f (is_among (2 * length edges))) en whole in
    subst (λ (n : ℕ). IsRanking (n + 2) (list_next nexts) (is_among n)) e named
