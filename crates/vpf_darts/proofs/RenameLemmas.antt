-- A renaming takes cycles to cycles.
use Rattle.std.proofs.Common.{[], ◌≡◌, ℕ, ◌<◌, Bool, true, false, cond, List, ◌∷◌, ◌++◌, map, refl, sym, ap, ◌∙◌, inl, inr, arith}
use Rattle.std.specs.List.{concat, AllByRecursion}
use Rattle.std.proofs.lemmas.Bool.{cases_lt, cases_Bool}
use Rattle.std.proofs.lemmas.Bool.Decides.{nat_tests}
use Rattle.std.proofs.lemmas.List.{map-append}
use Rattle.vpf_base.proofs.Booleans.{clash}
use Rattle.vpf_darts.specs.Cycles.{count_of, IsCycle}
use Rattle.vpf_darts.specs.Maps.{DartMap}
use Rattle.vpf_darts.specs.Inner.Laws.{IsRenaming, RenamingKeepsCycles}
use Rattle.vpf_darts.specs.Inner.CycleLaws.{preimage, each-counted, count_of-append}
use Rattle.vpf_darts.proofs.UniqueLemmas.{counted_holds}

abbrev pub AllLive : (ℕ → Bool) → List ℕ → Type 0
AllLive live xs = AllByRecursion (λ x. live x ≡ true) xs

pub lists_live : (live : ℕ → Bool) (lists : List (List ℕ)) → ((d : ℕ) → 0 < count_of d (concat lists) → live d ≡ true) → AllByRecursion (AllLive live) lists
lists_live live [] h = tt
lists_live live (xs ∷ lists) h = (
  each-counted (λ x. live x ≡ true) xs (λ y s. h y (rw count_of-append (omega (arith, s)))),
  lists_live live lists (λ y s. h y (rw count_of-append (omega (arith, s)))),
)

pub nexts_renamed : (m n : DartMap) (f back : ℕ → ℕ) → IsRenaming m n f back → (xs : List ℕ) → AllLive m.live xs → map n.next (map f xs) ≡ map f (map m.next xs)
nexts_renamed m n f back r [] l = refl
nexts_renamed m n f back r (x ∷ xs) l = (let e : n.next (f x) ≡ f (m.next x) = r.next x l.0 in let ih : map n.next (map f xs) ≡ map f (map m.next xs) = nexts_renamed m n f back r xs l.1 in cc)

pub cycle_renamed : (m n : DartMap) (f back : ℕ → ℕ) → IsRenaming m n f back → (xs : List ℕ) → AllLive m.live xs → IsCycle m.next xs → IsCycle n.next (map f xs)
cycle_renamed m n f back r [] l h = h
cycle_renamed m n f back r (x ∷ xs) l h = nexts_renamed m n f back r (x ∷ xs) l ∙ ap (map f) h ∙ map-append f xs (x ∷ [])

pub cycles_renamed : (m n : DartMap) (f back : ℕ → ℕ) → IsRenaming m n f back → (lists : List (List ℕ)) → AllByRecursion (AllLive m.live) lists → AllByRecursion (IsCycle m.next) lists → AllByRecursion (IsCycle n.next) (map (map f) lists)
cycles_renamed m n f back r [] l h = tt
cycles_renamed m n f back r (xs ∷ lists) l h = (cycle_renamed m n f back r xs l.0 h.0, cycles_renamed m n f back r lists l.1 h.1)

pub concat-map : (f : ℕ → ℕ) (lists : List (List ℕ)) → concat (map (map f) lists) ≡ map f (concat lists)
concat-map f [] = refl
concat-map f (xs ∷ lists) = ap (λ ys. map f xs ++ ys) (concat-map f lists) ∙ sym (map-append f xs (concat lists))

-- a renamed dart is counted as often as before
pub count_of-renamed : (m n : DartMap) (f back : ℕ → ℕ) → IsRenaming m n f back → (d : ℕ) → m.live d ≡ true → (xs : List ℕ) → AllLive m.live xs → count_of (f d) (map f xs) ≡ count_of d xs
count_of-renamed m n f back r d l [] all = refl
count_of-renamed m n f back r d l (x ∷ xs) all =
    let there : x ≡ d → f x ≡ f d = λ e. ap f e in
    let here : f x ≡ f d → x ≡ d = λ e. sym (r.back_f x all.0) ∙ ap back e ∙ r.back_f d l in
    let ih : count_of (f d) (map f xs) ≡ count_of d xs = count_of-renamed m n f back r d l xs all.1 in
    grind (arith, nat_tests)

pub live_from_count : (b : Bool) (c : ℕ) → 0 < c → c ≡ cond b 1 0 → b ≡ true
live_from_count true c h e = refl
live_from_count false c h e = absurd (omega arith)

pub counts_renamed : (m n : DartMap) (f back : ℕ → ℕ) → IsRenaming m n f back → (xs : List ℕ) → AllLive m.live xs → ((d : ℕ) → count_of d xs ≡ cond (m.live d) 1 0) → (e : ℕ) → count_of e (map f xs) ≡ cond (n.live e) 1 0
counts_renamed m n f back r xs all once e = elim (cases_Bool (n.live e)) [
  | inl t ↦ (
      let l : m.live (back e) ≡ true = r.back_live e t in
      let c : count_of (f (back e)) (map f xs) ≡ count_of (back e) xs = count_of-renamed m n f back r (back e) l xs all in
      let c' : count_of e (map f xs) ≡ count_of (back e) xs = rw (r.f_back e t) at c in
      let one : count_of (back e) xs ≡ 1 = rw l at (once (back e)) in
      rw t (c' ∙ one))
  | inr f' ↦ rw f' (elim (cases_lt 0 (count_of e (map f xs))) [
    | inl some ↦ (
        let w : (w : ℕ) × (0 < count_of w xs) × (f w ≡ e) = preimage f e xs some in
        let l : m.live w.0 ≡ true = counted_holds (λ x. m.live x ≡ true) xs all w.0 w.1 in
        let l' : n.live (f w.0) ≡ true = r.live w.0 l in
        let l'' : n.live e ≡ true = rw w.2 at l' in
        absurd (clash (n.live e) l'' f'))
    | inr none ↦ omega arith
  ])
]

pub takes_cycles : RenamingKeepsCycles
takes_cycles m n f back lists r h =
    let held : (d : ℕ) → 0 < count_of d (concat lists) → m.live d ≡ true = λ d s. live_from_count (m.live d) (count_of d (concat lists)) s (h.once d) in
    let each : AllByRecursion (AllLive m.live) lists = lists_live m.live lists held in
    let all : AllLive m.live (concat lists) = each-counted (λ x. m.live x ≡ true) (concat lists) held in
    record {
      cycles = cycles_renamed m n f back r lists each h.cycles;
      once = λ e. rw concat-map (counts_renamed m n f back r (concat lists) all h.once e);
    }
