-- The places of the nexts of the darts of a tile, and steps round a tail.
use Rattle.std.proofs.Common.{[], ◌≡◌, ℕ, zero, suc, ◌+◌, ◌-◌, ◌*◌, ◌<◌, ◌≤◌, ◌^◌, true, false, ltb, Option, Some, List, ◌∷◌, length, map, get_or, refl, sym, ap, subst, ◌∙◌, arith, inl, inr}
use Rattle.std.specs.Prelude.{All, slice_get}
use Rattle.std.proofs.lemmas.List.{get_or_past, length-map}
use Rattle.std.proofs.lemmas.List.Elements.{All-get_or}
use Rattle.std.proofs.lemmas.Bool.{cases_lt}
use Rattle.std.proofs.lemmas.Bool.Decides.{nat_tests}
use Rattle.vpf_darts.specs.declared.darts.Dart.{Dart}
use Rattle.vpf_darts.specs.Darts.{dart_code}
use Rattle.vpf_darts.specs.MapLists.{IsInRange, dart_place}
use Rattle.vpf_prims.specs.declared.rows.Edge.{Edge}
use Rattle.vpf_wing.specs.Nexts.{next_dart, dart_at, AreNexts, MakeMap}
use Rattle.vpf_wing.specs.Places.{place_or, next_place, least_place, flip_place, turn_place, steps_back, tails}
use Rattle.vpf_wing.specs.Inner.NextPlaces.{next_in, AreNextPlaces}
use Rattle.vpf_wing.specs.Inner.Leasts.{HoldLeasts, AreLeastPlaces}
use Rattle.vpf_wing.specs.Walks.{least_after}
use Rattle.vpf_wing.proofs.NextLemmas.{eqb_same, eqb_apart}
use Rattle.vpf_wing.proofs.MapLemmas.{code_is, sign_small}
use Rattle.vpf_wing.proofs.MarkLemmas.{any_default, least_after-same}
use Rattle.vpf_wing.proofs.LawLinks.{flip_below}

-- the place of a dart
abbrev pub place_of : Dart → ℕ
place_of d = dart_place (dart_code d)

-- the place of a dart of n darts is below n
place_below : (n : ℕ) (d : Dart) → IsInRange n d → place_of d < n
place_below n d h = omega (arith, code_is d, sign_small d.minus, h.0, h.1)

-- a number that is a dart's place fits
pub place_fits : (i p : ℕ) (darts : List Dart) (none : Dart) → length darts < 2 ^ 25 → All (IsInRange (length darts)) darts → i < length darts
    → p + 2 ≡ dart_code (get_or darts i none) → p < 2 ^ 25
place_fits i p darts none few all in' e =
    let d = get_or darts i none in
    let h : IsInRange (length darts) d = All-get_or (IsInRange (length darts)) darts i none in' all in
    omega (arith, code_is d, sign_small d.minus, h.0, h.1)

places_at : (nexts : List Dart) (p d : ℕ) → get_or (map place_of nexts) p d ≡ place_or (slice_get nexts p) d
places_at [] p d = refl
places_at (x ∷ xs) zero d = refl
places_at (x ∷ xs) (suc p) d = places_at xs p d

is_item : (nexts : List Dart) (p : ℕ) (x d : Dart) → slice_get nexts p ≡ Some x → get_or nexts p d ≡ x
is_item [] p x d h = absurd cc
is_item (y ∷ xs) zero x d h = (let e : y ≡ x = cc in e)
is_item (y ∷ xs) (suc p) x d h = is_item xs p x d h

is_below : (p n : ℕ) → p < n → ltb p n ≡ true
is_below p n h = grind (arith, nat_tests)

is_past : (p n : ℕ) → n ≤ p → ltb p n ≡ false
is_past p n h = grind (arith, nat_tests)

each_place : (edges : List Edge) (nexts : List Dart) → AreNexts edges nexts → (p : ℕ) → get_or (map place_of nexts) p p ≡ next_place edges p
unfolding next_place
each_place edges nexts are p = elim (cases_lt p (length nexts)) [
  | inl lt ↦ (
      let t : ltb p (2 * length edges) ≡ true = is_below p (2 * length edges) (omega (arith, are.count)) in
      rw t (places_at nexts p p ∙ ap (λ (o : Option Dart). place_or o p) (are.each p lt)))
  | inr ge ↦ (
      let t : ltb p (2 * length edges) ≡ false = is_past p (2 * length edges) (omega (arith, are.count)) in
      rw t (get_or_past (map place_of nexts) p p (omega (arith, length-map nexts place_of))))
]

-- the next of a place of a map
record HasNext (edges : List Edge) (nexts : List Dart) (p : ℕ) : Type 0 where
  next : Dart
  is : next_dart edges (dart_at p) ≡ Some next
  within : IsInRange (2 * length edges) next
  place : get_or (map place_of nexts) p p ≡ place_of next

next_at : (edges : List Edge) (nexts : List Dart) → AreNexts edges nexts → MakeMap edges → (p : ℕ) → p < 2 * length edges → HasNext edges nexts p
next_at edges nexts are made p h =
    let x = made.one p h in
    let in' : p < length nexts = omega (arith, are.count) in
    let got : slice_get nexts p ≡ Some x.0 = are.each p in' ∙ x.1 in
    record {
      next = x.0;
      is = x.1;
      within = subst (λ (d : Dart). IsInRange (2 * length edges) d) (is_item nexts p x.0 x.0 got) (All-get_or (IsInRange (2 * length edges)) nexts p x.0 in' are.in_range);
      place = places_at nexts p p ∙ ap (λ (o : Option Dart). place_or o p) got;
    }

past_at : (nexts : List Dart) (p : ℕ) → length nexts ≤ p → get_or (map place_of nexts) p p ≡ p
past_at nexts p h = get_or_past (map place_of nexts) p p (omega (arith, length-map nexts place_of))

places_apart : (edges : List Edge) (nexts : List Dart) → AreNexts edges nexts → MakeMap edges → (p q : ℕ)
    → get_or (map place_of nexts) p p ≡ get_or (map place_of nexts) q q → p ≡ q
places_apart edges nexts are made p q same = elim (cases_lt p (2 * length edges)) [
  | inl lp ↦ (
      let x = next_at edges nexts are made p lp in
      elim (cases_lt q (2 * length edges)) [
        | inl lq ↦ (
            let y = next_at edges nexts are made q lq in
            let e : place_of x.next ≡ place_of y.next = sym x.place ∙ same ∙ y.place in
            made.apart p q x.next y.next lp lq x.is y.is (omega (arith, code_is x.next, code_is y.next, x.within.0, y.within.0)))
        | inr gq ↦ (
            let b : place_of x.next < 2 * length edges = place_below (2 * length edges) x.next x.within in
            absurd (omega (arith, x.place, past_at nexts q (omega (arith, are.count)))))
      ])
  | inr gp ↦ elim (cases_lt q (2 * length edges)) [
    | inl lq ↦ (
        let y = next_at edges nexts are made q lq in
        let b : place_of y.next < 2 * length edges = place_below (2 * length edges) y.next y.within in
        absurd (omega (arith, y.place, past_at nexts p (omega (arith, are.count)))))
    | inr gq ↦ omega (arith, past_at nexts p (omega (arith, are.count)), past_at nexts q (omega (arith, are.count)))
  ]
]

-- the places of the nexts of a map are those of its darts
pub next_places : (edges : List Edge) (nexts : List Dart) → length edges < 2 ^ 24 → AreNexts edges nexts → MakeMap edges
    → AreNextPlaces edges (map place_of nexts)
next_places edges nexts few are made =
    let len : length (map place_of nexts) ≡ 2 * length edges = length-map nexts place_of ∙ are.count in
    record {
      few = few;
      count = len;
      each = each_place edges nexts are;
      below = λ p h. (let x = next_at edges nexts are made p (omega arith) in omega (arith, x.place, place_below (2 * length edges) x.next x.within));
      apart = places_apart edges nexts are made;
    }

-- ---- steps round a tail

-- a step leads to another place
pub turn_step : (edges : List Edge) (nexts : List ℕ) (p d : ℕ) → AreNextPlaces edges nexts → p < length nexts
    → get_or nexts (flip_place p) d ≡ turn_place edges p
turn_step edges nexts p d are h =
    let f : flip_place p < length nexts = omega (arith, are.count, flip_below (length edges) p (omega (arith, are.count))) in
    any_default nexts (flip_place p) d (flip_place p) f ∙ are.each (flip_place p)

pub turn_below : (edges : List Edge) (nexts : List ℕ) (p : ℕ) → AreNextPlaces edges nexts → p < length nexts → turn_place edges p < length nexts
turn_below edges nexts p are h =
    let f : flip_place p < length nexts = omega (arith, are.count, flip_below (length edges) p (omega (arith, are.count))) in
    omega (arith, are.each (flip_place p), are.below (flip_place p) f)

pub steps_back-stop : (step : ℕ → ℕ) (start n k x : ℕ) → k < n → step x ≡ start → steps_back step start (n - k) x ≡ 1
steps_back-stop step start n k x h e =
    let m : n - k ≡ suc (n - (k + 1)) = omega arith in
    rw (m, eqb_same (step x) start e) refl

pub steps_back-more : (step : ℕ → ℕ) (start n k x : ℕ) → k < n → (step x ≡ start → ⊥)
    → steps_back step start (n - k) x ≡ 1 + steps_back step start (n - (k + 1)) (step x)
steps_back-more step start n k x h ne =
    let m : n - k ≡ suc (n - (k + 1)) = omega arith in
    rw (m, eqb_apart (step x) start ne) refl

-- ---- least places

-- the leasts over a list of nexts are those of its darts
pub least_places : (edges : List Edge) (nexts leasts : List ℕ) → AreNextPlaces edges nexts → length leasts ≡ length nexts
    → HoldLeasts (next_in nexts) (length nexts) leasts → AreLeastPlaces edges leasts
unfolding least_place
least_places edges nexts leasts are len hold = record {
  count = len ∙ are.count;
  each = λ p h. hold p (omega (arith, are.count)) ∙ rw are.count (least_after-same (next_in nexts) (next_place edges) are.each (2 * length edges) p);
}

least_after-low : (next : ℕ → ℕ) (n x : ℕ) → least_after next n x ≤ x
least_after-low next zero x = omega arith
least_after-low next (suc n) x = omega arith

pub least_low : (edges : List Edge) (p : ℕ) → least_place edges p ≤ p
unfolding least_place
least_low edges p = least_after-low (next_place edges) (2 * length edges) p

-- two darts an edge
pub length_tails : (edges : List Edge) → length (tails edges) ≡ 2 * length edges
length_tails [] = refl
length_tails (e ∷ edges) = omega (arith, length_tails edges)
