-- A map without some of its edges: it is a map, and its next passes over their darts.
use Rattle.std.proofs.Common.{[], ◌≡◌, ℕ, zero, suc, ◌+◌, ◌*◌, ◌^◌, ◌<◌, ◌≤◌, length, Bool, true, false, ◌||◌, List, ◌∷◌, refl, sym, ap, ◌∙◌, inl, inr, arith, pow-suc}
use Rattle.std.proofs.lemmas.Bool.{cases_Bool, or_cases}
use Rattle.std.specs.List.{AllByRecursion}
use Rattle.vpf_base.proofs.Booleans.{and_true, and_false}
use Rattle.vpf_darts.specs.Maps.{DartMap, IsMap, turn, is_of, is_of_any, pass, without_edge, without}
use Rattle.vpf_darts.specs.Inner.Laws.{ComesRoundTo, FirstKeptDart, RemovalIsOfLiveEdges}
use Rattle.vpf_darts.specs.Inner.WithoutLaws.{without-is_map, without_edge-is_map, has_without, kept_stays, next_of_kept, of_cases, of_has, next_of_removed, not_of_flip, flip_without, live_without, live_without_all}

-- what is come to after a pass is come to before it
pub before_pass : (m : DartMap) (e : ℕ) (passed : ℕ → Bool) → ((x : ℕ) → is_of m.flip e x ≡ true → passed x ≡ true) → (k y z : ℕ) → ComesRoundTo m passed k (pass m.next m.flip e y) z → (j : ℕ) × (j ≤ suc k) × ComesRoundTo m passed j y z
before_pass m e passed over k y z c = elim (cases_Bool (is_of m.flip e y)) [
  | inl t ↦ (let c' : ComesRoundTo m passed k (turn m y) z = rw t at c in (suc k, omega arith, (over y t, c')))
  | inr f ↦ (let c' : ComesRoundTo m passed k y z = rw f at c in (k, omega arith, c'))
]

pub before_passes : (m : DartMap) (e : ℕ) (passed : ℕ → Bool) → ((x : ℕ) → is_of m.flip e x ≡ true → passed x ≡ true) → (k y z : ℕ) → ComesRoundTo m passed k (pass m.next m.flip e (pass m.next m.flip e y)) z → (j : ℕ) × (j ≤ k + 2) × ComesRoundTo m passed j y z
before_passes m e passed over k y z c =
    let one : (j : ℕ) × (j ≤ suc k) × ComesRoundTo m passed j (pass m.next m.flip e y) z = before_pass m e passed over k (pass m.next m.flip e y) z c in
    let two : (j : ℕ) × (j ≤ suc one.0) × ComesRoundTo m passed j y z = before_pass m e passed over one.0 y z one.2 in
    (two.0, omega arith, two.2)

pub comes_from : (m : DartMap) (passed : ℕ → Bool) (k x y z : ℕ) → x ≡ y → ComesRoundTo m passed k x z → ComesRoundTo m passed k y z
comes_from m passed k x y z e c = rw e at c

-- what is come to from the next of a kept dart in the map without an edge
pub before_next : (m : DartMap) (e : ℕ) (passed : ℕ → Bool) → ((x : ℕ) → is_of m.flip e x ≡ true → passed x ≡ true) → (d k z : ℕ) → is_of m.flip e d ≡ false → ComesRoundTo m passed k ((without_edge m e).next d) z → (j : ℕ) × (j ≤ k + 2) × ComesRoundTo m passed j (m.next d) z
before_next m e passed over d k z n c =
    let c' : ComesRoundTo m passed k (pass m.next m.flip e (pass m.next m.flip e (m.next d))) z = rw (next_of_kept m e d n) at c in
    before_passes m e passed over k (m.next d) z c'

-- what is come to without an edge is come to with it, where it is passed over too
pub before_removal : (m : DartMap) → IsMap m → (e : ℕ) → m.has e ≡ true → (passed : ℕ → Bool) → ((x : ℕ) → passed x ≡ true → m.has x ≡ true) → (k x z : ℕ) → is_of m.flip e x ≡ false → ComesRoundTo (without_edge m e) passed k x z → (j : ℕ) × (j ≤ 3 * k) × ComesRoundTo m (λ y. is_of m.flip e y || passed y) j x z
before_removal m h e he passed has zero x z n c = (0, omega arith, (rw n c.0, c.1))
before_removal m h e he passed has (suc k) x z n c =
    let nf : is_of m.flip e (m.flip x) ≡ false = not_of_flip m h e x he (has x c.0) n in
    let clear : is_of m.flip e (turn (without_edge m e) x) ≡ false = ap (λ w. is_of m.flip e ((without_edge m e).next w)) (flip_without m e x) ∙ kept_stays m h e (m.flip x) he nf in
    let rest : (j : ℕ) × (j ≤ 3 * k) × ComesRoundTo m (λ y. is_of m.flip e y || passed y) j (turn (without_edge m e) x) z = before_removal m h e he passed has k (turn (without_edge m e) x) z clear c.1 in
    let same : turn (without_edge m e) x ≡ (without_edge m e).next (m.flip x) = ap (without_edge m e).next (flip_without m e x) in
    let all : (j : ℕ) × (j ≤ rest.0 + 2) × ComesRoundTo m (λ y. is_of m.flip e y || passed y) j (turn m x) z = before_next m e (λ y. is_of m.flip e y || passed y) (λ y o. rw o refl) (m.flip x) rest.0 z nf (comes_from m (λ y. is_of m.flip e y || passed y) rest.0 (turn (without_edge m e) x) ((without_edge m e).next (m.flip x)) z same rest.2) in
    (suc all.0, omega arith, (rw (n, c.0) refl, all.2))

pub or_first : (a b : Bool) → (a || b) ≡ false → a ≡ false
or_first true b h = h
or_first false b h = refl

pub or_second : (a b : Bool) → (a || b) ≡ false → b ≡ false
or_second true b h = cc
or_second false b h = h

pub any_has : (m : DartMap) → IsMap m → (es : List ℕ) → AllByRecursion (λ e. m.has e ≡ true) es → (x : ℕ) → is_of_any m.flip es x ≡ true → m.has x ≡ true
any_has m h [] all x o = cc
any_has m h (e ∷ es) all x o = elim (or_cases (is_of m.flip e x) (is_of_any m.flip es x) o) [
  | inl a ↦ of_has m h e x all.0 a
  | inr b ↦ any_has m h es all.1 x b
]

pub passes_over : FirstKeptDart
unfolding without_edge
passes_over m [] d h all kept = (0, omega arith, (refl, refl))
passes_over m (e ∷ es) d h hs kept =
    let n : is_of m.flip e d ≡ false = or_first (is_of m.flip e d) (is_of_any m.flip es d) kept in
    let ns : is_of_any m.flip es d ≡ false = or_second (is_of m.flip e d) (is_of_any m.flip es d) kept in
    let ih : (k : ℕ) × (k < 3 ^ length es) × ComesRoundTo (without_edge m e) (is_of_any m.flip es) k ((without_edge m e).next d) ((without (without_edge m e) es).next d) = passes_over (without_edge m e) es d (without_edge-is_map m h e hs.0) hs.1 ns in
    let c : (j : ℕ) × (j ≤ 3 * ih.0) × ComesRoundTo m (is_of_any m.flip (e ∷ es)) j ((without_edge m e).next d) ((without m (e ∷ es)).next d) = before_removal m h e hs.0 (is_of_any m.flip es) (any_has m h es hs.1) ih.0 ((without_edge m e).next d) ((without (without_edge m e) es).next d) (kept_stays m h e d hs.0 n) ih.2 in
    let all : (j : ℕ) × (j ≤ c.0 + 2) × ComesRoundTo m (is_of_any m.flip (e ∷ es)) j (m.next d) ((without m (e ∷ es)).next d) = before_next m e (is_of_any m.flip (e ∷ es)) (λ y o. rw o refl) d c.0 ((without m (e ∷ es)).next d) n c.2 in
    let power : 3 ^ suc (length es) ≡ 3 * 3 ^ length es = rw pow-suc (omega arith) in
    (all.0, omega arith, all.2)

pub removed_stays : (m : DartMap) (es : List ℕ) (d : ℕ) → IsMap m → AllByRecursion (λ e. m.has e ≡ true) es → is_of_any m.flip es d ≡ true → (without m es).next d ≡ d
removed_stays m es d h all o = let w : IsMap (without m es) = without-is_map m es h all in w.next_dead d (live_without_all m es d ∙ (rw o (and_false (m.live d))))

pub flip_without_all : (m : DartMap) (es : List ℕ) (d : ℕ) → (without m es).flip d ≡ m.flip d
unfolding without_edge
flip_without_all m [] d = refl
flip_without_all m (e ∷ es) d = flip_without_all (without_edge m e) es d

pub has_without_all : (m : DartMap) (es : List ℕ) (d : ℕ) → (without m es).has d ≡ m.has d
unfolding without_edge
has_without_all m [] d = refl
has_without_all m (e ∷ es) d = has_without_all (without_edge m e) es d

-- without an edge that is not live, nothing changes
pub without_dead : RemovalIsOfLiveEdges
without_dead m e h he dead =
    let of_dead : (d : ℕ) → is_of m.flip e d ≡ true → m.live d ≡ false = λ d o. elim (of_cases m.flip e d o) [
      | inl a ↦ ap m.live a ∙ dead
      | inr b ↦ ap m.live b ∙ h.flip_live e he ∙ dead
    ] in
    record {
      has = λ d. ap (λ (f : ℕ → Bool). f d) (has_without m e);
      next = λ d. elim (cases_Bool (is_of m.flip e d)) [
        | inl o ↦ next_of_removed m e d o ∙ sym (h.next_dead d (of_dead d o))
        | inr n ↦ (
            let out : is_of m.flip e (m.next d) ≡ false = elim (cases_Bool (is_of m.flip e (m.next d))) [
              | inr f ↦ f
              | inl o ↦ (
                  let dd : m.live d ≡ false = sym (h.next_live d) ∙ of_dead (m.next d) o in
                  ap (is_of m.flip e) (h.next_dead d dd) ∙ n)
            ] in
            next_of_kept m e d n ∙ (rw (out, out) refl))
      ];
      flip = λ d. flip_without m e d;
      live = λ d. live_without m e d ∙ elim (cases_Bool (is_of m.flip e d)) [
        | inl o ↦ rw (of_dead d o) refl
        | inr n ↦ rw n (and_true (m.live d))
      ];
    }
