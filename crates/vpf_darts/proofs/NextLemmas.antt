-- Nexts in a list of 1+, 1-, 2+ and so on.
use Rattle.std.proofs.Common.{[], ◌≡◌, ◌≢◌, ℕ, zero, suc, ◌+◌, ◌*◌, ◌/◌, ◌%◌, ◌^◌, ◌<◌, ◌≤◌, true, false, ◌&&◌, nat_le, List, ◌∷◌, length, map, take, replicate, get_or, refl, sym, ap, ◌∙◌, inl, inr, arith}
use Rattle.std.specs.List.{All}
use Rattle.std.proofs.lemmas.Bool.{cases_lt, cases_Bool}
use Rattle.std.proofs.lemmas.Bool.Decides.{nat_tests}
use Rattle.std.proofs.lemmas.List.{get_or-map, get_or-take, length-take-le, length-map, get_or_past, get_or-replicate, length-replicate}
use Rattle.vpf_darts.specs.declared.darts.Dart.{Dart}
use Rattle.vpf_darts.specs.Cycles.{count_of}
use Rattle.vpf_darts.specs.Darts.{dart_code, sign_of, flip}
use Rattle.vpf_darts.specs.Maps.{IsMap}
use Rattle.vpf_darts.specs.MapLists.{AreMapLists, AreOfDarts, IsInRange, IsFirstRepeat, is_among, dart_map, lists_of}
use Rattle.vpf_darts.proofs.DartLemmas.{untiled_code, sign_of-le, flip-half}
use Rattle.vpf_darts.specs.Inner.DartLaws.{flip_flip, flip_apart}
use Rattle.vpf_darts.proofs.MarkLemmas.{any_default}
use Rattle.vpf_darts.proofs.RepeatLemmas.{StandOnce, apart_from_once, place_of_counted}

pub among_bounds : (n d : ℕ) → is_among n d ≡ true → (2 ≤ d) × (d < n + 2)
among_bounds n d h = grind (arith, nat_tests)

pub among_within : (n d : ℕ) → 2 ≤ d → d < n + 2 → is_among n d ≡ true
among_within n d low high = grind (arith, nat_tests)

pub among_outside : (n d : ℕ) → is_among n d ≡ false → 2 ≤ d → n + 2 ≤ d
among_outside n d out low = grind (arith, nat_tests)

-- the numbers of the nexts of each number, where 0 and 1 are kept
abbrev pub numbers : List Dart → List ℕ
numbers next = 0 ∷ 1 ∷ map dart_code next

abbrev pub next_in : List Dart → ℕ → ℕ
next_in next d = get_or (numbers next) d d

abbrev pub no_dart : Dart
no_dart = record { edge = 0; minus = false }

pub in_range-bounds : (n : ℕ) (d : Dart) → IsInRange n d → (2 ≤ dart_code d) × (dart_code d < n + 2)
in_range-bounds n d r = let e = untiled_code d.edge (sign_of d.minus) in let s = sign_of-le d.minus in let low : 1 ≤ d.edge = r.0 in let high : 2 * d.edge ≤ n = r.1 in (omega arith, omega arith)

-- the next at a place of the list
pub next_at : (next : List Dart) (p : ℕ) → p < length next → next_in next (suc (suc p)) ≡ dart_code (get_or next p no_dart)
next_at next p h = get_or-map dart_code next p no_dart (suc (suc p)) h

pub next_outside : (next : List Dart) (d : ℕ) → is_among (length next) d ≡ false → next_in next d ≡ d
next_outside next zero out = refl
next_outside next (suc zero) out = refl
next_outside next (suc (suc p)) out = get_or_past (map dart_code next) p (suc (suc p)) (let far : length next + 2 ≤ suc (suc p) = among_outside (length next) (suc (suc p)) out (omega arith) in rw length-map (omega arith))

pub next_bounds : (next : List Dart) → All (IsInRange (length next)) next → (d : ℕ) → 2 ≤ d → d < length next + 2 → (2 ≤ next_in next d) × (next_in next d < length next + 2)
next_bounds next all zero low high = absurd (omega arith)
next_bounds next all (suc zero) low high = absurd (omega arith)
next_bounds next all (suc (suc p)) low high =
    let h : p < length next = omega arith in
    rw (next_at next p h) (in_range-bounds (length next) (get_or next p no_dart) (all p no_dart h))

pub next_among : (next : List Dart) → All (IsInRange (length next)) next → (d : ℕ) → is_among (length next) (next_in next d) ≡ is_among (length next) d
next_among next all d = elim (cases_Bool (is_among (length next) d)) [
  | inl t ↦ (let b : (2 ≤ d) × (d < length next + 2) = among_bounds (length next) d t in let r : (2 ≤ next_in next d) × (next_in next d < length next + 2) = next_bounds next all d b.0 b.1 in among_within (length next) (next_in next d) r.0 r.1 ∙ sym t)
  | inr f ↦ ap (is_among (length next)) (next_outside next d f)
]

pub next_apart-inside : (next : List Dart) → StandOnce (map dart_code next) → (c d : ℕ) → 2 ≤ c → c < length next + 2 → 2 ≤ d → d < length next + 2 → next_in next c ≡ next_in next d → c ≡ d
next_apart-inside next once zero d lc hc ld hd same = absurd (omega arith)
next_apart-inside next once (suc zero) d lc hc ld hd same = absurd (omega arith)
next_apart-inside next once (suc (suc p)) zero lc hc ld hd same = absurd (omega arith)
next_apart-inside next once (suc (suc p)) (suc zero) lc hc ld hd same = absurd (omega arith)
next_apart-inside next once (suc (suc p)) (suc (suc q)) lc hc ld hd same =
    let len : length (map dart_code next) ≡ length next = length-map next dart_code in
    let hp : p < length (map dart_code next) = omega arith in
    let hq : q < length (map dart_code next) = omega arith in
    ap (λ k. suc (suc k)) (apart_from_once (map dart_code next) once p q hp hq (any_default (map dart_code next) p 0 (suc (suc p)) hp ∙ same ∙ any_default (map dart_code next) q (suc (suc q)) 0 hq))

pub next_in-apart : (next : List Dart) → All (IsInRange (length next)) next → StandOnce (map dart_code next) → (c d : ℕ) → next_in next c ≡ next_in next d → c ≡ d
next_in-apart next all once c d same =
    let n : ℕ = length next in
    let alike : is_among (length next) c ≡ is_among (length next) d = sym (next_among next all c) ∙ ap (is_among (length next)) same ∙ next_among next all d in
    elim (cases_Bool (is_among (length next) c)) [
      | inl t ↦ (
          let bc : (2 ≤ c) × (c < length next + 2) = among_bounds (length next) c t in
          let bd : (2 ≤ d) × (d < length next + 2) = among_bounds (length next) d (sym alike ∙ t) in
          next_apart-inside next once c d bc.0 bc.1 bd.0 bd.1 same)
      | inr f ↦ sym (next_outside next c f) ∙ same ∙ next_outside next d (sym alike ∙ f)
    ]

-- with every edge live, the live darts are all of them
pub live_at : (m k : ℕ) → get_or (false ∷ replicate m true) k false ≡ (nat_le 1 k && nat_le k m)
live_at m zero = refl
live_at m (suc k) = elim (cases_lt k m) [
  | inl lt ↦ get_or-replicate m k true false lt ∙ (let t : (nat_le 1 (suc k) && nat_le (suc k) m) ≡ true = grind (arith, nat_tests) in sym t)
  | inr ge ↦ get_or_past (replicate m true) k false (rw length-replicate ge) ∙ (let f : (nat_le 1 (suc k) && nat_le (suc k) m) ≡ false = grind (arith, nat_tests) in sym f)
]

pub half_among : (n d : ℕ) → n % 2 ≡ 0 → (nat_le 1 (d / 2) && nat_le (d / 2) (n / 2)) ≡ is_among n d
half_among n d even = elim (cases_Bool (is_among n d)) [
  | inl t ↦ (let b : (2 ≤ d) × (d < n + 2) = among_bounds n d t in let low : 1 ≤ d / 2 = omega arith in let high : d / 2 ≤ n / 2 = omega arith in grind (arith, nat_tests))
  | inr f ↦ elim (cases_lt d 2) [
    | inl lt ↦ (let z : d / 2 < 1 = omega arith in grind (arith, nat_tests))
    | inr ge ↦ (let far : n + 2 ≤ d = among_outside n d f ge in let high : n / 2 < d / 2 = omega arith in grind (arith, nat_tests))
  ]
]

pub live_among : (n d : ℕ) → n % 2 ≡ 0 → get_or (false ∷ replicate (n / 2) true) (d / 2) false ≡ is_among n d
live_among n d even = live_at (n / 2) (d / 2) ∙ half_among n d even

pub flip-among : (n d : ℕ) → n % 2 ≡ 0 → is_among n (flip d) ≡ is_among n d
flip-among n d even = sym (half_among n (flip d) even) ∙ ap (λ k. nat_le 1 k && nat_le k (n / 2)) (flip-half d) ∙ half_among n d even

-- nexts that no two darts share make a map
pub lists_of-is_map : (next : List Dart) → length next % 2 ≡ 0 → All (IsInRange (length next)) next → StandOnce (map dart_code next) → IsMap (dart_map (lists_of next [] []))
lists_of-is_map next even all once =
    let n : ℕ = length next in
    let len : length (map dart_code next) ≡ length next = length-map next dart_code in
    let live : (d : ℕ) → get_or (false ∷ replicate (length next / 2) true) (d / 2) false ≡ is_among (length next) d = λ d. live_among (length next) d even in
    let has : (d : ℕ) → is_among (length (map dart_code next)) d ≡ is_among (length next) d = λ d. ap (λ k. is_among k d) len in
    record {
      next_apart = next_in-apart next all once;
      next_live = λ d. live (next_in next d) ∙ next_among next all d ∙ sym (live d);
      next_dead = λ d dead. next_outside next d (sym (live d) ∙ dead);
      live_has = λ d l. has d ∙ sym (live d) ∙ l;
      flip_has = λ d h. has (flip d) ∙ flip-among (length next) d even ∙ sym (has d) ∙ h;
      flip_live = λ d h. ap (λ k. get_or (false ∷ replicate (length next / 2) true) k false) (flip-half d);
      flip_flip = λ d h. flip_flip d;
      flip_apart = λ d h. flip_apart d;
    }

pub are_map_lists : (next : List Dart) (tail face : List ℕ) → AreOfDarts next tail face → IsMap (dart_map (lists_of next [] [])) → AreMapLists (lists_of next tail face)
are_map_lists next tail face of_darts is_map =
    let len : length (map dart_code next) ≡ length next = length-map next dart_code in
    let edges : length (replicate (length next / 2) true) ≡ length next / 2 = length-replicate (length next / 2) true in
    record {
      few = (let few : length next < 2 ^ 33 = of_darts.few in omega arith);
      darts = (let even : length next % 2 ≡ 0 = of_darts.even in omega arith);
      tails = of_darts.tails ∙ sym len;
      faces = of_darts.faces ∙ sym len;
      is_map = is_map;
    }

-- the next of the dart at a place
pub next_in_place : (next : List Dart) (p : ℕ) → p < length next → next_in next (p + 2) ≡ dart_code (get_or next p no_dart)
next_in_place next p h = let e : p + 2 ≡ suc (suc p) = omega arith in ap (next_in next) e ∙ next_at next p h

-- before a place, the nexts of places are apart
pub apart_before : (next : List Dart) (k : ℕ) → k < length next → StandOnce (take k (map dart_code next)) → (c d : ℕ) → 2 ≤ c → c < d → d < k + 2 → next_in next c ≢ next_in next d
apart_before next k h once zero d low up high same = omega arith
apart_before next k h once (suc zero) d low up high same = omega arith
apart_before next k h once (suc (suc p)) zero low up high same = omega arith
apart_before next k h once (suc (suc p)) (suc zero) low up high same = omega arith
apart_before next k h once (suc (suc p)) (suc (suc q)) low up high same =
    let len : length (map dart_code next) ≡ length next = length-map next dart_code in
    let taken : length (take k (map dart_code next)) ≡ k = length-take-le k (map dart_code next) (omega arith) in
    let hp : p < length (map dart_code next) = omega arith in
    let hq : q < length (map dart_code next) = omega arith in
    let one : get_or (take k (map dart_code next)) p 0 ≡ get_or (map dart_code next) p (suc (suc p)) = get_or-take k (map dart_code next) p 0 (omega arith) ∙ any_default (map dart_code next) p 0 (suc (suc p)) hp in
    let two : get_or (map dart_code next) q (suc (suc q)) ≡ get_or (take k (map dart_code next)) q 0 = any_default (map dart_code next) q (suc (suc q)) 0 hq ∙ sym (get_or-take k (map dart_code next) q 0 (omega arith)) in
    let e : p ≡ q = apart_from_once (take k (map dart_code next)) once p q (omega arith) (omega arith) (one ∙ same ∙ two) in
    omega arith

-- the first place whose next stands before it is that of the first repeat
pub first_repeat_at : (next : List Dart) (k : ℕ) → k < length next → 0 < count_of (dart_code (get_or next k no_dart)) (take k (map dart_code next)) → StandOnce (take k (map dart_code next)) → IsFirstRepeat (dart_map (lists_of next [] [])) (k + 2)
first_repeat_at next k h counted once =
    let len : length (map dart_code next) ≡ length next = length-map next dart_code in
    let taken : length (take k (map dart_code next)) ≡ k = length-take-le k (map dart_code next) (omega arith) in
    let w : (i : ℕ) × (i < length (take k (map dart_code next))) × (get_or (take k (map dart_code next)) i 0 ≡ dart_code (get_or next k no_dart)) = place_of_counted (take k (map dart_code next)) (dart_code (get_or next k no_dart)) counted in
    let below : w.0 < k = omega (arith, w.1) in
    let here : dart_code (get_or next w.0 no_dart) ≡ dart_code (get_or next k no_dart) =
    sym (get_or-map dart_code next w.0 no_dart 0 (omega arith)) ∙ sym (get_or-take k (map dart_code next) w.0 0 below) ∙ w.2 in
    record {
      has = among_within (length (map dart_code next)) (k + 2) (omega arith) (omega arith);
      earlier = w.0 + 2;
      earlier_has = among_within (length (map dart_code next)) (w.0 + 2) (omega arith) (omega arith);
      before = omega arith;
      repeats = next_in_place next w.0 (omega arith) ∙ here ∙ sym (next_in_place next k h);
      first = λ c d hc hd up high. (let b : (2 ≤ c) × (c < length (map dart_code next) + 2) = among_bounds (length (map dart_code next)) c hc in apart_before next k h once c d b.0 up high);
    }
