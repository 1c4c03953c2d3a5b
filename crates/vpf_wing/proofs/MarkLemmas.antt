-- A walk round a cycle that writes where it began, and what is then known of least places.
use Rattle.std.proofs.Common.{[], ◌≡◌, ◌≢◌, ℕ, zero, suc, ◌+◌, ◌<◌, ◌≤◌, min, List, ◌∷◌, ◌++◌, map, length, get_or, set, get_or-set_same, get_or-set_other, refl, sym, ap, subst, ◌∙◌, arith, inl, inr}
use Rattle.std.proofs.lemmas.Bool.{cases_eq, cases_lt}
use Rattle.std.proofs.lemmas.Bool.Decides.{nat_tests}
use Rattle.vpf_darts.specs.Cycles.{count_of, IsCycle, first_of}
use Rattle.vpf_wing.specs.Walks.{least_after}
use Rattle.vpf_wing.specs.Inner.NextPlaces.{IsApart, StayBelow}
use Rattle.vpf_wing.specs.Inner.Leasts.{AgreeOnCycles, MarksCycle}
use Rattle.vpf_darts.specs.Inner.CycleLaws.{length-counted, first_of-walk, IsWalk-at_start, IsCycle-from_walk, IsWalk-more, IsDartWalk as IsWalk, count_of-next, count_of-step, count_of-not_here, count_of-here, count_of-append}
use Rattle.vpf_darts.specs.Inner.OrbitLaws.{few_from_once}
use Rattle.vpf_wing.proofs.LawFacts.{zero_or_some}

-- the place k steps after x
unfoldable pub iterate : (ℕ → ℕ) → ℕ → ℕ → ℕ
iterate next zero x = x
iterate next (suc k) x = iterate next k (next x)

count_one : (x y : ℕ) → x ≡ y → count_of y (x ∷ []) ≡ 1
count_one x y e = grind (arith, nat_tests)

-- what is kept on the way
pub record IsWalked (next : ℕ → ℕ) (n start : ℕ) (old new : List ℕ) (at : ℕ) : Type 0 where
  pub places : List ℕ
  pub walk : IsWalk next start places at
  pub once : (d : ℕ) → count_of d places ≤ 1
  pub inside : (d : ℕ) → 0 < count_of d places → d < n
  pub fresh : (d : ℕ) → 0 < count_of d places → get_or old d n ≡ n
  pub on : (d : ℕ) → 0 < count_of d places → get_or new d n ≡ start
  pub off : (d : ℕ) → count_of d places ≡ 0 → get_or new d n ≡ get_or old d n
  pub here : at < n
  pub here_fresh : get_or old at n ≡ n

-- what holds of each dart of a list, and of one more
each_more : (P : ℕ → Type 0) (xs : List ℕ) (x : ℕ) → ((d : ℕ) → 0 < count_of d xs → P d) → P x → (d : ℕ) → 0 < count_of d (xs ++ x ∷ []) → P d
each_more P xs x before here d h =
    let h' : 0 < count_of d xs + count_of d (x ∷ []) = rw count_of-append at h in
    elim (cases_eq x d) [
      | inl e ↦ subst P e here
      | inr ne ↦ (let o : count_of d (x ∷ []) ≡ 0 = count_of-step x d [] ne in before d (omega arith))
    ]

pub IsWalked-more : (next : ℕ → ℕ) (n start : ℕ) (old new : List ℕ) (at : ℕ) → StayBelow next n → AgreeOnCycles next n old → length new ≡ n → start < n
    → get_or new at n ≡ n → IsWalked next n start old new at → IsWalked next n start old (set new at start) (next at)
IsWalked-more next n start old new at below agree len start_in now w =
    let room : at < length new = rw len w.here in
    let none : count_of at w.places ≡ 0 = elim (zero_or_some (count_of at w.places)) [
      | inl z ↦ z
      | inr some ↦ (let e : get_or new at n ≡ start = w.on at some in absurd (omega arith))
    ] in
    record {
      places = w.places ++ at ∷ [];
      walk = IsWalk-more next start w.places at w.walk;
      once = λ d. rw count_of-append (elim (cases_eq at d) [
        | inl e ↦ (let z : count_of d w.places ≡ 0 = subst (λ v. count_of v w.places ≡ 0) e none in let o : count_of d (at ∷ []) ≡ 1 = count_one at d e in omega arith)
        | inr ne ↦ (let o : count_of d (at ∷ []) ≡ 0 = count_of-step at d [] ne in let le : count_of d w.places ≤ 1 = w.once d in omega arith)
      ]);
      inside = each_more (λ d. d < n) w.places at w.inside w.here;
      fresh = each_more (λ d. get_or old d n ≡ n) w.places at w.fresh w.here_fresh;
      on = each_more (λ d. get_or (set new at start) d n ≡ start) w.places at
          (λ d some. elim (cases_eq at d) [
            | inl e ↦ rw (← e) (get_or-set_same new at start n room)
            | inr ne ↦ (let other : d ≢ at = λ q. ne (sym q) in rw (get_or-set_other new at d start n other) (w.on d some))
          ])
          (get_or-set_same new at start n room);
      off = λ d z. (
          let z' : count_of d w.places + count_of d (at ∷ []) ≡ 0 = rw count_of-append at z in
          let other : d ≢ at = λ q. (let o : count_of d (at ∷ []) ≡ 1 = count_one at d (sym q) in absurd (omega arith)) in
          rw (get_or-set_other new at d start n other) (w.off d (omega arith)));
      here = below at w.here;
      here_fresh = agree at ∙ w.here_fresh;
    }

pub MarksCycle-from_walked : (next : ℕ → ℕ) (n start : ℕ) (old new : List ℕ) (at : ℕ) → IsApart next → get_or new at n ≢ n → IsWalked next n start old new at
    → MarksCycle next n start old new
MarksCycle-from_walked next n start old new at apart now w =
    let some : 0 < count_of at w.places = elim (zero_or_some (count_of at w.places)) [
      | inl z ↦ absurd (now (w.off at z ∙ w.here_fresh))
      | inr s ↦ s
    ] in
    let e : at ≡ start = IsWalk-at_start next apart start w.places at w.walk w.once some in
    let few : 0 < length w.places = length-counted at w.places some in
    let walk : IsWalk next start w.places start = rw e at w.walk in
    record {
      places = w.places;
      cycle = IsCycle-from_walk next start w.places few walk;
      first = first_of-walk next start w.places start few walk;
      once = w.once;
      inside = w.inside;
      fresh = w.fresh;
      on = w.on;
      off = w.off;
    }

-- the default of an element in range does not matter
pub any_default : (xs : List ℕ) (i a b : ℕ) → i < length xs → get_or xs i a ≡ get_or xs i b
any_default [] i a b h = absurd (omega arith)
any_default (x ∷ xs) zero a b h = refl
any_default (x ∷ xs) (suc i) a b h = any_default xs i a b (omega arith)

-- the least of the places after x, where s is one of them and none is below s
least_after-le : (next : ℕ → ℕ) (n k x : ℕ) → k ≤ n → least_after next n x ≤ iterate next k x
unfolding iterate
least_after-le next zero zero x h = omega arith
least_after-le next zero (suc k) x h = absurd (omega arith)
least_after-le next (suc n) zero x h = omega arith
least_after-le next (suc n) (suc k) x h = let ih : least_after next n (next x) ≤ iterate next k (next x) = least_after-le next n k (next x) (omega arith) in omega arith

-- what holds of x and of the next of each that it holds of holds of the least of the places after x
least_after-ge : (next : ℕ → ℕ) (P : ℕ → Type 0) (s : ℕ) → ((d : ℕ) → P d → s ≤ d) → ((d : ℕ) → P d → P (next d)) → (n x : ℕ) → P x → s ≤ least_after next n x
least_after-ge next P s low on zero x p = low x p
least_after-ge next P s low on (suc n) x p =
    let a : s ≤ x = low x p in
    let b : s ≤ least_after next n (next x) = least_after-ge next P s low on n (next x) (on x p) in
    omega arith

-- from each dart of a walk that ends at s the nexts lead to s
leads : (next : ℕ → ℕ) (s d : ℕ) (xs : List ℕ) → map next (d ∷ xs) ≡ xs ++ s ∷ [] → (y : ℕ) → 0 < count_of y (d ∷ xs)
    → (k : ℕ) × (k ≤ length (d ∷ xs)) × (iterate next k y ≡ s)
unfolding iterate
leads next s d [] h y some = elim (cases_eq d y) [
  | inl e ↦ (1, omega arith, ap next (sym e) ∙ (let q : next d ≡ s = cc in q))
  | inr ne ↦ (let o : count_of y (d ∷ []) ≡ 0 = count_of-step d y [] ne in absurd (omega arith))
]
leads next s d (x ∷ xs) h y some =
    let first : next d ≡ x = cc in
    let rest : map next (x ∷ xs) ≡ xs ++ s ∷ [] = cc in
    elim (cases_eq d y) [
      | inl e ↦ (
          let r : (k : ℕ) × (k ≤ length (x ∷ xs)) × (iterate next k x ≡ s) = leads next s x xs rest x (count_of-here x xs) in
          let to : next y ≡ x = ap next (sym e) ∙ first in
          (suc r.0, omega (arith, r.1), rw to r.2))
      | inr ne ↦ (
          let r : (k : ℕ) × (k ≤ length (x ∷ xs)) × (iterate next k y ≡ s) = leads next s x xs rest y (count_of-not_here d y (x ∷ xs) ne some) in
          (r.0, omega (arith, r.1), r.2))
    ]

-- what is kept when all places below `start` are looked at
pub record AreMarked (next : ℕ → ℕ) (n start : ℕ) (leasts : List ℕ) : Type 0 where
  pub room : length leasts ≡ n
  pub agree : AgreeOnCycles next n leasts
  pub passed : (d : ℕ) → d < start → get_or leasts d n ≢ n
  pub entries : (d : ℕ) → d < n → get_or leasts d n ≢ n → (get_or leasts d n ≤ d) × ((k : ℕ) × (k ≤ n) × (iterate next k d ≡ get_or leasts d n))

pub AreMarked-skip : (next : ℕ → ℕ) (n start : ℕ) (leasts : List ℕ) → get_or leasts start n ≢ n → AreMarked next n start leasts
    → AreMarked next n (start + 1) leasts
AreMarked-skip next n start leasts here m = record {
  room = m.room;
  agree = m.agree;
  passed = λ d h. elim (cases_lt d start) [ inl lt ↦ m.passed d lt | inr ge ↦ (let e : start ≡ d = omega arith in subst (λ v. get_or leasts v n ≢ n) e here) ];
  entries = m.entries;
}

cycle_leads : (next : ℕ → ℕ) (xs : List ℕ) → IsCycle next xs → (y : ℕ) → 0 < count_of y xs → (k : ℕ) × (k ≤ length xs) × (iterate next k y ≡ first_of xs)
cycle_leads next [] h y some = absurd h
cycle_leads next (x ∷ xs) h y some = leads next x x xs h y some

first_in : (next : ℕ → ℕ) (xs : List ℕ) → IsCycle next xs → 0 < count_of (first_of xs) xs
first_in next [] h = absurd h
first_in next (x ∷ xs) h = count_of-here x xs

pub AreMarked-more : (next : ℕ → ℕ) (n start : ℕ) (old new : List ℕ) → IsApart next → start < n → length new ≡ n → MarksCycle next n start old new
    → AreMarked next n start old → AreMarked next n (start + 1) new
AreMarked-more next n start old new apart start_in len c m =
    let few : length c.places ≤ n = few_from_once c.places n c.once c.inside in
    record {
      room = len;
      agree = λ d. (
          let same : count_of (next d) c.places ≡ count_of d c.places = count_of-next next apart c.places c.cycle d in
          elim (zero_or_some (count_of d c.places)) [
            | inl z ↦ c.off (next d) (same ∙ z) ∙ m.agree d ∙ sym (c.off d z)
            | inr some ↦ c.on (next d) (omega arith) ∙ sym (c.on d some)
          ]);
      passed = λ d h e. elim (zero_or_some (count_of d c.places)) [
        | inl z ↦ (let was : get_or old d n ≡ n = sym (c.off d z) ∙ e in elim (cases_lt d start) [
          | inl lt ↦ m.passed d lt was
          | inr ge ↦ (let same : start ≡ d = omega arith in
              let one : 0 < count_of (first_of c.places) c.places = first_in next c.places c.cycle in
              let one' : 0 < count_of d c.places = subst (λ v. 0 < count_of v c.places) (c.first ∙ same) one in
              omega arith)
        ])
        | inr some ↦ (let is : get_or new d n ≡ start = c.on d some in omega arith)
      ];
      entries = λ d dn has. elim (zero_or_some (count_of d c.places)) [
        | inl z ↦ (let same : get_or new d n ≡ get_or old d n = c.off d z in
            let r : (get_or old d n ≤ d) × ((k : ℕ) × (k ≤ n) × (iterate next k d ≡ get_or old d n)) = m.entries d dn (λ e. has (same ∙ e)) in
            rw same r)
        | inr some ↦ (
            let is : get_or new d n ≡ start = c.on d some in
            let above : start ≤ d = elim (cases_lt d start) [ inl lt ↦ absurd (m.passed d lt (c.fresh d some)) | inr ge ↦ ge ] in
            let r : (k : ℕ) × (k ≤ length c.places) × (iterate next k d ≡ first_of c.places) = cycle_leads next c.places c.cycle d some in
            rw is (above, (r.0, omega (arith, r.1), r.2 ∙ c.first)))
      ];
    }

pub AreMarked-all : (next : ℕ → ℕ) (n : ℕ) (leasts : List ℕ) → StayBelow next n → AreMarked next n n leasts → (d : ℕ) → d < n
    → get_or leasts d 0 ≡ least_after next n d
AreMarked-all next n leasts below m d h =
    let s : ℕ = get_or leasts d n in
    let has : get_or leasts d n ≢ n = m.passed d h in
    let r : (get_or leasts d n ≤ d) × ((k : ℕ) × (k ≤ n) × (iterate next k d ≡ get_or leasts d n)) = m.entries d h has in
    let le : least_after next n d ≤ iterate next r.1.0 d = least_after-le next n r.1.0 d r.1.1 in
    let is : iterate next r.1.0 d ≡ get_or leasts d n = r.1.2 in
    let ge : get_or leasts d n ≤ least_after next n d = least_after-ge next (λ y. (y < n) × (get_or leasts y n ≡ get_or leasts d n)) (get_or leasts d n)
    (λ y p. (let own : (get_or leasts y n ≤ y) × ((k : ℕ) × (k ≤ n) × (iterate next k y ≡ get_or leasts y n)) = m.entries y p.0 (m.passed y p.0) in omega (arith, own.0, p.1)))
    (λ y p. (below y p.0, m.agree y ∙ p.1)) n d (h, refl) in
    let e : get_or leasts d 0 ≡ get_or leasts d n = any_default leasts d 0 n (omega (arith, m.room)) in
    omega arith

pub least_after-same : (f g : ℕ → ℕ) → ((d : ℕ) → f d ≡ g d) → (n x : ℕ) → least_after f n x ≡ least_after g n x
least_after-same f g same zero x = refl
least_after-same f g same (suc n) x = ap (λ v. min x (least_after f n v)) (same x) ∙ ap (λ v. min x v) (least_after-same f g same n (g x))
