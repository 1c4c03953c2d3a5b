-- A map has a listing.
use Rattle.std.proofs.Common.{[], ◌≡◌, ℕ, zero, suc, ◌+◌, ◌<◌, ◌≤◌, Bool, true, false, not, ◌||◌, nat_lt, List, ◌∷◌, ◌++◌, refl, sym, ap, ◌∙◌, subst, inl, inr, arith}
use Rattle.std.proofs.lemmas.Bool.{cases_lt, cases_Bool}
use Rattle.std.proofs.lemmas.Bool.Decides.{nat_tests}
use Rattle.vpf_darts.specs.Cycles.{count_of, IsListing}
use Rattle.vpf_darts.specs.Maps.{DartMap, IsMap, is_of_any, without}
use Rattle.vpf_darts.specs.Inner.Laws.{LiveBelow, DartLiesOnCycle, MapHasListing, RemainderHasListing}
use Rattle.vpf_darts.specs.Inner.Ranks.{IsRanking, Marks}
use Rattle.vpf_darts.proofs.ListingLemmas.{IsListed, IsListed-begin, IsListed-skip, IsListed-add, IsListed-end}
use Rattle.vpf_darts.specs.Inner.OrbitLaws.{Returns, returns}
use Rattle.vpf_darts.specs.Inner.WithoutLaws.{first_true, live_without_all, without-is_map}

-- the listing of what stands below start
pub record Listed (next : ℕ → ℕ) (live : ℕ → Bool) (n start : ℕ) : Type 0 where
  pub marks : ℕ → Bool
  pub lists : List (List ℕ)
  pub listed : IsListed next live marks lists start
  pub beyond : (d : ℕ) → n ≤ d → marks d ≡ true

pub not_live : (n : ℕ) (live : ℕ → Bool) → LiveBelow n live → (d : ℕ) → n ≤ d → live d ≡ false
not_live n live below d h = elim (cases_Bool (live d)) [
  | inl t ↦ (let lt : d < n = below d t in absurd (omega arith))
  | inr f ↦ f
]

-- the marks with those of a list, each of which was unmarked
abbrev pub with_marks : (ℕ → Bool) → List ℕ → ℕ → Bool
with_marks old xs d = old d || nat_lt 0 (count_of d xs)

pub with_marks-are : (old : ℕ → Bool) (xs : List ℕ) → ((y : ℕ) → count_of y xs ≤ 1) → ((y : ℕ) → 0 < count_of y xs → old y ≡ false) → Marks old (with_marks old xs) xs
with_marks-are old xs once fresh d = elim (cases_lt 0 (count_of d xs)) [
  | inl some ↦ (
      let f : old d ≡ false = fresh d some in
      let one : count_of d xs ≡ 1 = omega (arith, once d) in
      grind (arith, nat_tests))
  | inr none ↦ (let zero : count_of d xs ≡ 0 = omega arith in grind (arith, nat_tests))
]

pub one_more : (n : ℕ) (next : ℕ → ℕ) (live : ℕ → Bool) (start : ℕ) → IsRanking n next live → start < n → Listed next live n start → Listed next live n (start + 1)
one_more n next live start r h so_far = elim (cases_Bool (so_far.marks start)) [
  | inl t ↦ record { marks = so_far.marks; lists = so_far.lists; listed = IsListed-skip next live so_far.marks so_far.lists start so_far.listed t; beyond = so_far.beyond }
  | inr f ↦ (
      let Q : ℕ → Type 0 = λ d. (d < n) × (so_far.marks d ≡ false) in
      let c : Returns next Q start = returns next n start Q r.apart (λ d q. q.0) (λ d q. (r.inside d q.0, so_far.listed.closed d ∙ q.1)) (h, f) in
      record {
        marks = with_marks so_far.marks c.darts;
        lists = so_far.lists ++ c.darts ∷ [];
        listed = IsListed-add next live so_far.marks so_far.lists start (with_marks so_far.marks c.darts) c.darts r.apart so_far.listed c.cycle c.first (with_marks-are so_far.marks c.darts c.once (λ y s. (c.hold y s).1));
        beyond = λ d le. ap (λ b. b || nat_lt 0 (count_of d c.darts)) (so_far.beyond d le);
      })
]

pub all_listed : (n : ℕ) (next : ℕ → ℕ) (live : ℕ → Bool) (k : ℕ) → IsRanking n next live → k ≤ n → Listed next live n k
all_listed n next live zero r h = record {
  marks = λ d. not (live d);
  lists = [];
  listed = IsListed-begin n next live (λ d. not (live d)) r (λ d. refl);
  beyond = λ d le. ap not (not_live n live r.live_inside d le);
}
all_listed n next live (suc k) r h =
    let more : Listed next live n (k + 1) = one_more n next live k r (omega arith) (all_listed n next live k r (omega arith)) in
    let e : k + 1 ≡ suc k = omega arith in
    subst (Listed next live n) e more

pub has_listing : (n : ℕ) (next : ℕ → ℕ) (live : ℕ → Bool) → IsRanking n next live → (lists : List (List ℕ)) × IsListing next live lists
has_listing n next live r =
    let all : Listed next live n n = all_listed n next live n r (omega arith) in
    (all.lists, IsListed-end next live all.marks all.lists n all.listed all.beyond)

pub ranking_of : (m : DartMap) (n : ℕ) → IsMap m → LiveBelow n m.live → IsRanking n m.next m.live
ranking_of m n h below = record {
  apart = h.next_apart;
  inside = λ d lt. elim (cases_Bool (m.live d)) [
    | inl t ↦ below (m.next d) (h.next_live d ∙ t)
    | inr f ↦ rw (h.next_dead d f) lt
  ];
  outside = λ d le. h.next_dead d (not_live n m.live below d le);
  next_live = h.next_live;
  live_inside = below;
}

pub map_has_listing : MapHasListing
map_has_listing m n h below = has_listing n m.next m.live (ranking_of m n h below)

pub remainder_has_listing : RemainderHasListing
remainder_has_listing m es n h all below =
    map_has_listing (without m es) n (without-is_map m es h all) (λ d l. below d (first_true (m.live d) (not (is_of_any m.flip es d)) (sym (live_without_all m es d) ∙ l)))

pub dart_lies_on_cycle : DartLiesOnCycle
dart_lies_on_cycle m n d h below l =
    let c : Returns m.next (λ x. m.live x ≡ true) d = returns m.next n d (λ x. m.live x ≡ true) h.next_apart below (λ x lx. h.next_live x ∙ lx) l in
    (c.darts, c.cycle, c.first)
