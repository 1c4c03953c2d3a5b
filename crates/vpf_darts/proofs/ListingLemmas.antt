-- Listing cycles by their least ranks, one after the other.
use Rattle.std.proofs.Common.{[], ◌≡◌, ℕ, ◌+◌, ◌<◌, ◌≤◌, Bool, true, false, not, cond, List, ◌∷◌, ◌++◌, length, append-nil, refl, sym, ap, ◌∙◌, inl, inr, arith}
use Rattle.std.specs.List.{concat, AllByRecursion}
use Rattle.std.proofs.lemmas.Bool.{cases_eq, cases_lt}
use Rattle.std.proofs.lemmas.List.Folds.{concat-append}
use Rattle.vpf_darts.specs.Cycles.{count_of, IsCycle, IsListing, BeginsWithLeast, FirstsRise, first_of}
use Rattle.vpf_darts.specs.Inner.Ranks.{IsRanking, Marks, IsClosed}
use Rattle.vpf_darts.specs.Inner.CycleLaws.{each-counted, count_of-here, count_of-equal}
use Rattle.vpf_darts.proofs.MarkLemmas.{Marks-once, Marks-keep, Marks-has, Marks-join, cond-le, closed_after}

pub each-push : (P : List ℕ → Type 0) (ls : List (List ℕ)) (xs : List ℕ) → AllByRecursion P ls → P xs → AllByRecursion P (ls ++ xs ∷ [])
each-push P [] xs all p = (p, tt)
each-push P (ys ∷ ls) xs all p = (all.0, each-push P ls xs all.1 p)

pub each-weaker : (P Q : List ℕ → Type 0) → ((xs : List ℕ) → P xs → Q xs) → (ls : List (List ℕ)) → AllByRecursion P ls → AllByRecursion Q ls
each-weaker P Q w [] all = tt
each-weaker P Q w (ys ∷ ls) all = (w ys all.0, each-weaker P Q w ls all.1)

pub FirstsRise-push : (ls : List (List ℕ)) (xs : List ℕ) → FirstsRise ls → AllByRecursion (λ ys. first_of ys < first_of xs) ls → FirstsRise (ls ++ xs ∷ [])
FirstsRise-push [] xs rise below = (tt, tt)
FirstsRise-push (ys ∷ ls) xs rise below = (each-push (λ zs. first_of ys < first_of zs) ls xs rise.0 below.0, FirstsRise-push ls xs rise.1 below.1)

pub begins_with_least : (start : ℕ) (xs : List ℕ) (old new : ℕ → Bool) → 0 < length xs → first_of xs ≡ start → Marks old new xs → ((d : ℕ) → d < start → old d ≡ true) → BeginsWithLeast xs
begins_with_least start [] old new few first marks below = absurd (omega arith)
begins_with_least start (x ∷ xs) old new few first marks below = each-counted (λ y. x < y) xs (λ y h. elim (cases_lt x y) [
  | inl lt ↦ lt
  | inr ge ↦ (
      let once : count_of y (x ∷ xs) ≤ 1 = Marks-once old new (x ∷ xs) marks y in
      elim (cases_eq x y) [
        | inl e ↦ (let more : count_of y (x ∷ xs) ≡ 1 + count_of y xs = count_of-equal x y xs e in absurd (omega arith))
        | inr ne ↦ (
            let was : old y ≡ true = below y (omega arith) in
            let m : cond (new y) 1 0 ≡ cond (old y) 1 0 + count_of y (x ∷ xs) = marks y in
            let m' : cond (new y) 1 0 ≡ 1 + count_of y (x ∷ xs) = rw was at m in
            let le : cond (new y) 1 0 ≤ 1 = cond-le (new y) in
            absurd (omega arith))
      ])
])

pub by_not : (b : Bool) (c : ℕ) → 1 ≡ cond (not b) 1 0 + c → c ≡ cond b 1 0
by_not true c h = omega arith
by_not false c h = omega arith

-- what is so when all ranks below start are looked at: all of them are marked, and what was marked on
-- the way is listed
pub record IsListed (next : ℕ → ℕ) (live marks : ℕ → Bool) (lists : List (List ℕ)) (start : ℕ) : Type 0 where
  pub closed : IsClosed next marks
  pub marks_are : Marks (λ d. not (live d)) marks (concat lists)
  pub passed : (d : ℕ) → d < start → marks d ≡ true
  pub cycles : AllByRecursion (IsCycle next) lists
  pub least : AllByRecursion BeginsWithLeast lists
  pub rise : FirstsRise lists
  pub below : AllByRecursion (λ xs. first_of xs < start) lists

pub passed_more : (marks : ℕ → Bool) (start : ℕ) → ((d : ℕ) → d < start → marks d ≡ true) → marks start ≡ true → (d : ℕ) → d < start + 1 → marks d ≡ true
passed_more marks start before here d h = elim (cases_lt d start) [
  | inl lt ↦ before d lt
  | inr ge ↦ (let e : d ≡ start = omega arith in rw e here)
]

-- before any rank is looked at, those that are not live are marked
pub IsListed-begin : (count : ℕ) (next : ℕ → ℕ) (live marks : ℕ → Bool) → IsRanking count next live → ((d : ℕ) → marks d ≡ not (live d)) → IsListed next live marks [] 0
IsListed-begin count next live marks r dead = record {
  closed = λ d. dead (next d) ∙ ap not (r.next_live d) ∙ sym (dead d);
  marks_are = λ d. ap (λ b. cond b 1 0) (dead d) ∙ (omega arith);
  passed = λ d h. absurd (omega arith);
  cycles = tt;
  least = tt;
  rise = tt;
  below = tt;
}

pub IsListed-skip : (next : ℕ → ℕ) (live marks : ℕ → Bool) (lists : List (List ℕ)) (start : ℕ) → IsListed next live marks lists start → marks start ≡ true → IsListed next live marks lists (start + 1)
IsListed-skip next live marks lists start so_far here = record {
  closed = so_far.closed;
  marks_are = so_far.marks_are;
  passed = passed_more marks start so_far.passed here;
  cycles = so_far.cycles;
  least = so_far.least;
  rise = so_far.rise;
  below = each-weaker (λ xs. first_of xs < start) (λ xs. first_of xs < start + 1) (λ xs h. omega (arith, h)) lists so_far.below;
}

pub concat-push : (ls : List (List ℕ)) (xs : List ℕ) → concat (ls ++ xs ∷ []) ≡ concat ls ++ xs
concat-push ls xs = rw (concat-append, append-nil) refl

pub first_counted : (next : ℕ → ℕ) (xs : List ℕ) → IsCycle next xs → (0 < length xs) × (0 < count_of (first_of xs) xs)
first_counted next [] h = absurd h
first_counted next (x ∷ xs) h = (omega arith, count_of-here x xs)

pub IsListed-add : (next : ℕ → ℕ) (live marks : ℕ → Bool) (lists : List (List ℕ)) (start : ℕ) (new : ℕ → Bool) (xs : List ℕ) → ((d e : ℕ) → next d ≡ next e → d ≡ e) → IsListed next live marks lists start → IsCycle next xs → first_of xs ≡ start → Marks marks new xs → IsListed next live new (lists ++ xs ∷ []) (start + 1)
IsListed-add next live marks lists start new xs apart so_far cycle at m =
    let has : (0 < length xs) × (0 < count_of (first_of xs) xs) = first_counted next xs cycle in
    let here : new start ≡ true = Marks-has marks new xs m start (rw (← at) has.1) in
    record {
      closed = closed_after next xs marks new apart cycle so_far.closed m;
      marks_are = rw concat-push (Marks-join (λ d. not (live d)) marks new (concat lists) xs so_far.marks_are m);
      passed = passed_more new start (λ d h. Marks-keep marks new xs m d (so_far.passed d h)) here;
      cycles = each-push (IsCycle next) lists xs so_far.cycles cycle;
      least = each-push BeginsWithLeast lists xs so_far.least (begins_with_least start xs marks new has.0 at m so_far.passed);
      rise = FirstsRise-push lists xs so_far.rise (each-weaker (λ ys. first_of ys < start) (λ ys. first_of ys < first_of xs) (λ ys h. omega (arith, h, at)) lists so_far.below);
      below = each-push (λ ys. first_of ys < start + 1) lists xs (each-weaker (λ ys. first_of ys < start) (λ ys. first_of ys < start + 1) (λ ys h. omega (arith, h)) lists so_far.below) (omega (arith, at));
    }

-- once all ranks are marked, the lists are the listing
pub IsListed-end : (next : ℕ → ℕ) (live marks : ℕ → Bool) (lists : List (List ℕ)) (n : ℕ) → IsListed next live marks lists n → ((d : ℕ) → n ≤ d → marks d ≡ true) → IsListing next live lists
IsListed-end next live marks lists n done beyond =
    let all : (d : ℕ) → marks d ≡ true = λ d. elim (cases_lt d n) [ inl lt ↦ done.passed d lt | inr ge ↦ beyond d ge ] in
    record {
      cycles = record {
        cycles = done.cycles;
        once = λ d. (
            let e : cond (marks d) 1 0 ≡ cond (not (live d)) 1 0 + count_of d (concat lists) = done.marks_are d in
            let e' : 1 ≡ cond (not (live d)) 1 0 + count_of d (concat lists) = rw (all d) at e in
            by_not (live d) (count_of d (concat lists)) e');
      };
      least = done.least;
      rise = done.rise;
    }
