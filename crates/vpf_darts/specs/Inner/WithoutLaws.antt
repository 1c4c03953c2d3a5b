-- A map without some of its edges: it is a map, and its next passes over their darts.
use Rattle.std.proofs.Common.{[], ◌≡◌, ◌≢◌, ℕ, Bool, true, false, not, ◌||◌, ◌&&◌, ◌⊎◌, List, ◌∷◌, refl, sym, ap, ◌∙◌, inl, inr, arith}
use Rattle.std.proofs.lemmas.Bool.{cases_Bool}
use Rattle.std.proofs.lemmas.Bool.Decides.{nat_tests}
use Rattle.vpf_darts.specs.Maps.{DartMap, IsMap, turn, is_of, is_of_any, pass, without_edge, without}
use Rattle.vpf_darts.specs.Inner.Laws.{RemovalLeavesAMap}

-- the two darts of an edge, as equations
pub of_cases : (flip : ℕ → ℕ) (e x : ℕ) → is_of flip e x ≡ true → (x ≡ e) ⊎ (x ≡ flip e)
of_cases flip e x h = grind (arith, nat_tests)

pub of_this : (flip : ℕ → ℕ) (e : ℕ) → is_of flip e e ≡ true
of_this flip e = grind (arith, nat_tests)

pub of_other : (flip : ℕ → ℕ) (e : ℕ) → is_of flip e (flip e) ≡ true
of_other flip e = grind (arith, nat_tests)

pub of_has : (m : DartMap) → IsMap m → (e x : ℕ) → m.has e ≡ true → is_of m.flip e x ≡ true → m.has x ≡ true
of_has m h e x he o = elim (of_cases m.flip e x o) [
  | inl a ↦ rw a he
  | inr b ↦ rw b (h.flip_has e he)
]

pub of_flip : (m : DartMap) → IsMap m → (e x : ℕ) → m.has e ≡ true → is_of m.flip e x ≡ true → is_of m.flip e (m.flip x) ≡ true
of_flip m h e x he o = elim (of_cases m.flip e x o) [
  | inl a ↦ rw a (of_other m.flip e)
  | inr b ↦ rw (b, h.flip_flip e he) (of_this m.flip e)
]

pub not_of_flip : (m : DartMap) → IsMap m → (e x : ℕ) → m.has e ≡ true → m.has x ≡ true → is_of m.flip e x ≡ false → is_of m.flip e (m.flip x) ≡ false
not_of_flip m h e x he hx n = elim (cases_Bool (is_of m.flip e (m.flip x))) [
  | inl t ↦ (let back : is_of m.flip e (m.flip (m.flip x)) ≡ true = of_flip m h e (m.flip x) he t in
      let back' : is_of m.flip e x ≡ true = rw (h.flip_flip x hx) at back in cc)
  | inr f ↦ f
]

pub flip-differs : (m : DartMap) → IsMap m → (x y : ℕ) → m.has x ≡ true → m.has y ≡ true → m.flip x ≡ m.flip y → x ≡ y
flip-differs m h x y hx hy e = sym (h.flip_flip x hx) ∙ ap m.flip e ∙ h.flip_flip y hy

-- two darts of one removed edge that turn to one dart are one
pub turn-apart : (m : DartMap) → IsMap m → (e x y : ℕ) → m.has e ≡ true → is_of m.flip e x ≡ true → is_of m.flip e y ≡ true → turn m x ≡ turn m y → x ≡ y
turn-apart m h e x y he ox oy same = flip-differs m h x y (of_has m h e x he ox) (of_has m h e y he oy) (h.next_apart (m.flip x) (m.flip y) same)

-- the next of a kept dart is no turn of a removed one
pub not_turn : (m : DartMap) → IsMap m → (e d y : ℕ) → m.has e ≡ true → is_of m.flip e d ≡ false → is_of m.flip e y ≡ true → m.next d ≡ turn m y → ⊥
not_turn m h e d y he n o same =
    let is : d ≡ m.flip y = h.next_apart d (m.flip y) same in
    let o' : is_of m.flip e (m.flip y) ≡ true = of_flip m h e y he o in
    let o'' : is_of m.flip e d ≡ true = rw is o' in
    cc

-- of three darts of one edge two are one
pub no_three : (e f a b c : ℕ) → (a ≡ e) ⊎ (a ≡ f) → (b ≡ e) ⊎ (b ≡ f) → (c ≡ e) ⊎ (c ≡ f) → a ≢ b → a ≢ c → b ≢ c → ⊥
no_three e f a b c ia ib ic ab ac bc = grind arith

-- what two passes leave of the next of a kept dart: three cases
pub data Passed (m : DartMap) (e y z : ℕ) : Type 0 where
  none : is_of m.flip e y ≡ false → z ≡ y → Passed m e y z
  once : is_of m.flip e y ≡ true → is_of m.flip e (turn m y) ≡ false → z ≡ turn m y → Passed m e y z
  twice : is_of m.flip e y ≡ true → is_of m.flip e (turn m y) ≡ true → z ≡ turn m (turn m y) → Passed m e y z

pub passed_dart_is : (m : DartMap) (e y : ℕ) → Passed m e y (pass m.next m.flip e (pass m.next m.flip e y))
passed_dart_is m e y = elim (cases_Bool (is_of m.flip e y)) [
  | inr f ↦ none f (rw (f, f) refl)
  | inl t ↦ elim (cases_Bool (is_of m.flip e (turn m y))) [
    | inr f ↦ once t f (rw (t, f) refl)
    | inl u ↦ twice t u (rw (t, u) refl)
  ]
]

-- after two passes the next of a kept dart is kept
pub passed_clear : (m : DartMap) → IsMap m → (e d z : ℕ) → m.has e ≡ true → is_of m.flip e d ≡ false → Passed m e (m.next d) z → is_of m.flip e z ≡ false
passed_clear m h e d z he n (none f is) = rw is f
passed_clear m h e d z he n (once t f is) = rw is f
passed_clear m h e d z he n (twice t u is) = elim (cases_Bool (is_of m.flip e (turn m (turn m (m.next d))))) [
  | inr f ↦ rw is f
  | inl v ↦ absurd (no_three e (m.flip e) (m.next d) (turn m (m.next d)) (turn m (turn m (m.next d)))
      (of_cases m.flip e (m.next d) t) (of_cases m.flip e (turn m (m.next d)) u) (of_cases m.flip e (turn m (turn m (m.next d))) v)
      (λ same. not_turn m h e d (m.next d) he n t same)
      (λ same. not_turn m h e d (turn m (m.next d)) he n u same)
      (λ same. not_turn m h e d (m.next d) he n t (turn-apart m h e (m.next d) (turn m (m.next d)) he t u same)))
]

-- two kept darts whose nexts lead to one dart are one
pub passed_apart : (m : DartMap) → IsMap m → (e c d z : ℕ) → m.has e ≡ true → is_of m.flip e c ≡ false → is_of m.flip e d ≡ false → Passed m e (m.next c) z → Passed m e (m.next d) z → c ≡ d
passed_apart m h e c d z he nc nd (none f is) (none g same) = h.next_apart c d (sym is ∙ same)
passed_apart m h e c d z he nc nd (none f is) (once t g same) = absurd (not_turn m h e c (m.next d) he nc t (sym is ∙ same))
passed_apart m h e c d z he nc nd (none f is) (twice t u same) = absurd (not_turn m h e c (turn m (m.next d)) he nc u (sym is ∙ same))
passed_apart m h e c d z he nc nd (once t f is) (none g same) = absurd (not_turn m h e d (m.next c) he nd t (sym same ∙ is))
passed_apart m h e c d z he nc nd (once t f is) (once u g same) = h.next_apart c d (turn-apart m h e (m.next c) (m.next d) he t u (sym is ∙ same))
passed_apart m h e c d z he nc nd (once t f is) (twice u v same) = absurd (not_turn m h e c (m.next d) he nc u (turn-apart m h e (m.next c) (turn m (m.next d)) he t v (sym is ∙ same)))
passed_apart m h e c d z he nc nd (twice t u is) (none g same) = absurd (not_turn m h e d (turn m (m.next c)) he nd u (sym same ∙ is))
passed_apart m h e c d z he nc nd (twice t u is) (once v g same) = absurd (not_turn m h e d (m.next c) he nd t (turn-apart m h e (m.next d) (turn m (m.next c)) he v u (sym same ∙ is)))
passed_apart m h e c d z he nc nd (twice t u is) (twice v w same) = h.next_apart c d (turn-apart m h e (m.next c) (m.next d) he t v (turn-apart m h e (turn m (m.next c)) (turn m (m.next d)) he u w (sym is ∙ same)))

pub next_of_kept : (m : DartMap) (e d : ℕ) → is_of m.flip e d ≡ false → (without_edge m e).next d ≡ pass m.next m.flip e (pass m.next m.flip e (m.next d))
unfolding without_edge
next_of_kept m e d n = rw n refl

pub next_of_removed : (m : DartMap) (e d : ℕ) → is_of m.flip e d ≡ true → (without_edge m e).next d ≡ d
unfolding without_edge
next_of_removed m e d o = rw o refl

pub live_without : (m : DartMap) (e d : ℕ) → (without_edge m e).live d ≡ (m.live d && not (is_of m.flip e d))
unfolding without_edge
live_without m e d = refl

pub flip_without : (m : DartMap) (e d : ℕ) → (without_edge m e).flip d ≡ m.flip d
unfolding without_edge
flip_without m e d = refl

pub kept_stays : (m : DartMap) → IsMap m → (e d : ℕ) → m.has e ≡ true → is_of m.flip e d ≡ false → is_of m.flip e ((without_edge m e).next d) ≡ false
kept_stays m h e d he n = rw (next_of_kept m e d n) (passed_clear m h e d (pass m.next m.flip e (pass m.next m.flip e (m.next d))) he n (passed_dart_is m e (m.next d)))

pub live_turn : (m : DartMap) → IsMap m → (x : ℕ) → m.has x ≡ true → m.live (turn m x) ≡ m.live x
live_turn m h x hx = h.next_live (m.flip x) ∙ h.flip_live x hx

pub live_passed : (m : DartMap) → IsMap m → (e y z : ℕ) → m.has e ≡ true → Passed m e y z → m.live z ≡ m.live y
live_passed m h e y z he (none f is) = ap m.live is
live_passed m h e y z he (once t f is) = ap m.live is ∙ live_turn m h y (of_has m h e y he t)
live_passed m h e y z he (twice t u is) = (ap m.live is ∙ live_turn m h (turn m y) (of_has m h e (turn m y) he u)) ∙ live_turn m h y (of_has m h e y he t)

pub apart_bool : true ≡ false → ⊥
apart_bool h = cc

pub of_flip_same : (m : DartMap) → IsMap m → (e x : ℕ) → m.has e ≡ true → m.has x ≡ true → is_of m.flip e (m.flip x) ≡ is_of m.flip e x
of_flip_same m h e x he hx = elim (cases_Bool (is_of m.flip e x)) [
  | inl t ↦ of_flip m h e x he t ∙ sym t
  | inr f ↦ not_of_flip m h e x he hx f ∙ sym f
]

pub without_edge-apart : (m : DartMap) → IsMap m → (e c d : ℕ) → m.has e ≡ true → (without_edge m e).next c ≡ (without_edge m e).next d → c ≡ d
without_edge-apart m h e c d he same = elim (cases_Bool (is_of m.flip e c)) [
  | inl oc ↦ (
      let ic : (without_edge m e).next c ≡ c = next_of_removed m e c oc in
      elim (cases_Bool (is_of m.flip e d)) [
        | inl od ↦ sym ic ∙ same ∙ next_of_removed m e d od
        | inr nd ↦ (let k : is_of m.flip e ((without_edge m e).next d) ≡ false = kept_stays m h e d he nd in
            let k' : is_of m.flip e c ≡ false = rw (sym same ∙ ic) at k in absurd (apart_bool (sym oc ∙ k')))
      ])
  | inr nc ↦ elim (cases_Bool (is_of m.flip e d)) [
    | inl od ↦ (let k : is_of m.flip e ((without_edge m e).next c) ≡ false = kept_stays m h e c he nc in
        let k' : is_of m.flip e d ≡ false = rw (same ∙ next_of_removed m e d od) at k in absurd (apart_bool (sym od ∙ k')))
    | inr nd ↦ (
        let pc : Passed m e (m.next c) ((without_edge m e).next c) = rw (next_of_kept m e c nc) (passed_dart_is m e (m.next c)) in
        let pd : Passed m e (m.next d) ((without_edge m e).next d) = rw (next_of_kept m e d nd) (passed_dart_is m e (m.next d)) in
        let pd' : Passed m e (m.next d) ((without_edge m e).next c) = rw same pd in
        passed_apart m h e c d ((without_edge m e).next c) he nc nd pc pd')
  ]
]

pub first_true : (a b : Bool) → (a && b) ≡ true → a ≡ true
first_true true b h = refl
first_true false b h = h

pub has_without : (m : DartMap) (e : ℕ) → (without_edge m e).has ≡ m.has
unfolding without_edge
has_without m e = refl

pub has_flip_without : (m : DartMap) → IsMap m → (e d : ℕ) → (without_edge m e).has d ≡ true → (without_edge m e).has ((without_edge m e).flip d) ≡ true
unfolding without_edge
has_flip_without m h e d hd = h.flip_has d hd

pub without_edge-is_map : (m : DartMap) → IsMap m → (e : ℕ) → m.has e ≡ true → IsMap (without_edge m e)
without_edge-is_map m h e he = record {
  next_apart = λ c d same. without_edge-apart m h e c d he same;
  next_live = λ d. elim (cases_Bool (is_of m.flip e d)) [
    | inl o ↦ ap (without_edge m e).live (next_of_removed m e d o)
    | inr n ↦ (
        let p : Passed m e (m.next d) ((without_edge m e).next d) = rw (next_of_kept m e d n) (passed_dart_is m e (m.next d)) in
        let l : m.live ((without_edge m e).next d) ≡ m.live d = live_passed m h e (m.next d) ((without_edge m e).next d) he p ∙ h.next_live d in
        rw (live_without m e ((without_edge m e).next d), live_without m e d, l, kept_stays m h e d he n, n) refl)
  ];
  next_dead = λ d dead. elim (cases_Bool (is_of m.flip e d)) [
    | inl o ↦ next_of_removed m e d o
    | inr n ↦ (
        let dead' : (m.live d && not (is_of m.flip e d)) ≡ false = sym (live_without m e d) ∙ dead in
        let dead'' : m.live d ≡ false = grind arith in
        let is : m.next d ≡ d = h.next_dead d dead'' in
        rw (next_of_kept m e d n, is, n, n) refl)
  ];
  live_has = λ d l. rw (has_without m e) (h.live_has d (first_true (m.live d) (not (is_of m.flip e d)) (sym (live_without m e d) ∙ l)));
  flip_has = λ d hd. has_flip_without m h e d hd;
  flip_live = λ d hd. (let hd' : m.has d ≡ true = rw (has_without m e) at hd in rw (flip_without m e d, live_without m e (m.flip d), live_without m e d, h.flip_live d hd', of_flip_same m h e d he hd') refl);
  flip_flip = λ d hd. (let hd' : m.has d ≡ true = rw (has_without m e) at hd in rw (flip_without m e d, flip_without m e (m.flip d)) (h.flip_flip d hd'));
  flip_apart = λ d hd. (let hd' : m.has d ≡ true = rw (has_without m e) at hd in rw (flip_without m e d) (h.flip_apart d hd'));
}

pub without-is_map : RemovalLeavesAMap
unfolding without_edge
without-is_map m [] h all = h
without-is_map m (e ∷ es) h all = without-is_map (without_edge m e) es (without_edge-is_map m h e all.0) all.1

pub and_not : (a b c : Bool) → ((a && not b) && not c) ≡ (a && not (b || c))
and_not true true c = refl
and_not true false c = refl
and_not false b c = refl

pub live_without_all : (m : DartMap) (es : List ℕ) (d : ℕ) → (without m es).live d ≡ (m.live d && not (is_of_any m.flip es d))
unfolding without_edge
live_without_all m [] d = grind (arith, nat_tests)
live_without_all m (e ∷ es) d = live_without_all (without_edge m e) es d ∙ and_not (m.live d) (is_of m.flip e d) (is_of_any m.flip es d)
