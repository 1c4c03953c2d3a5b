-- The walk to the first dart that is not passed over.
use Rattle.std.proofs.Common.{◌≡◌, ℕ, zero, suc, ◌<◌, ◌≤◌, Bool, true, false, cond, List, ◌^◌, length, refl, sym, ap, ◌∙◌, inl, inr, arith}
use Rattle.std.proofs.lemmas.Bool.{cases_Bool}
use Rattle.vpf_base.proofs.Booleans.{clash}
use Rattle.vpf_darts.specs.Maps.{DartMap, IsMap, AreEdges, turn, is_of_any, without}
use Rattle.vpf_darts.specs.Inner.Laws.{ComesRoundTo}
use Rattle.vpf_darts.proofs.WithoutLemmas.{passes_over, comes_from}

-- how many are passed over from x on, of the first n
abbrev pub steps_to : DartMap → (ℕ → Bool) → ℕ → ℕ → ℕ
steps_to m passed zero x = zero
steps_to m passed (suc n) x = cond (passed x) (suc (steps_to m passed n (turn m x))) zero

pub steps_to_is : (m : DartMap) (passed : ℕ → Bool) (k n x y : ℕ) → k ≤ n → ComesRoundTo m passed k x y → steps_to m passed n x ≡ k
steps_to_is m passed zero zero x y h c = refl
steps_to_is m passed zero (suc n) x y h c = rw c.0 refl
steps_to_is m passed (suc k) zero x y h c = absurd (omega arith)
steps_to_is m passed (suc k) (suc n) x y h c = rw c.0 (ap suc (steps_to_is m passed k n (turn m x) y (omega arith) c.1))

-- a walk from x that comes to y within so many steps
pub record IsOnWay (m : DartMap) (passed : ℕ → Bool) (fuel x y : ℕ) : Type 0 where
  pub left : ℕ
  pub few : left ≤ fuel
  pub comes : ComesRoundTo m passed left x y

pub one_more : (m : DartMap) (passed : ℕ → Bool) (fuel x y : ℕ) → (left : ℕ) → left ≤ fuel → ComesRoundTo m passed left x y → passed x ≡ true → (IsOnWay m passed fuel (turn m x) y) × (steps_to m passed fuel (turn m x) < steps_to m passed fuel x)
one_more m passed fuel x y zero few c p = absurd (clash (passed x) p c.0)
one_more m passed fuel x y (suc k) few c p =
    let a : steps_to m passed fuel x ≡ suc k = steps_to_is m passed (suc k) fuel x y few c in
    let b : steps_to m passed fuel (turn m x) ≡ k = steps_to_is m passed k fuel (turn m x) y (omega arith) c.1 in
    (record { left = k; few = omega arith; comes = c.1 }, omega arith)

pub arrived : (m : DartMap) (passed : ℕ → Bool) (left x y : ℕ) → ComesRoundTo m passed left x y → passed x ≡ false → x ≡ y
arrived m passed zero x y c p = c.1
arrived m passed (suc k) x y c p = absurd (clash (passed x) c.0 p)

pub next_has : (m : DartMap) → IsMap m → (d : ℕ) → m.has d ≡ true → m.has (m.next d) ≡ true
next_has m h d hd = elim (cases_Bool (m.live d)) [
  | inl l ↦ h.live_has (m.next d) (h.next_live d ∙ l)
  | inr dead ↦ ap m.has (h.next_dead d dead) ∙ hd
]

-- the walk from the next of d, at a dart
pub record IsWalking (m : DartMap) (es : List ℕ) (d at : ℕ) : Type 0 where
  pub has : m.has at ≡ true
  pub way : IsOnWay m (is_of_any m.flip es) (3 ^ length es) at ((without m es).next d)

-- how many edges are still passed over
abbrev pub steps_left : DartMap → List ℕ → ℕ → ℕ
steps_left m es at = steps_to m (is_of_any m.flip es) (3 ^ length es) at

pub walk_begins : (m : DartMap) (es : List ℕ) (d first : ℕ) → IsMap m → AreEdges m es → m.has d ≡ true → is_of_any m.flip es d ≡ false → first ≡ m.next d → IsWalking m es d first
walk_begins m es d first h all hd kept is =
    let p = passes_over m es d h all kept in
    record {
      has = rw is (next_has m h d hd);
      way = record { left = p.0; few = omega (arith, p.1); comes = comes_from m (is_of_any m.flip es) p.0 (m.next d) first _ (sym is) p.2 };
    }

pub walk_goes : (m : DartMap) (es : List ℕ) (d at flipped after : ℕ) → IsMap m → IsWalking m es d at → is_of_any m.flip es at ≡ true → flipped ≡ m.flip at → after ≡ m.next flipped → IsWalking m es d after × (steps_left m es after < steps_left m es at)
walk_goes m es d at flipped after h w p f is =
    let turned : after ≡ turn m at = is ∙ ap m.next f in
    let one = one_more m (is_of_any m.flip es) (3 ^ length es) at ((without m es).next d) w.way.left w.way.few w.way.comes p in
    rw turned (record { has = next_has m h (m.flip at) (h.flip_has at w.has); way = one.0 }, one.1)

pub walk_ends : (m : DartMap) (es : List ℕ) (d at : ℕ) → IsWalking m es d at → is_of_any m.flip es at ≡ false → at ≡ (without m es).next d
walk_ends m es d at w f = arrived m (is_of_any m.flip es) w.way.left at ((without m es).next d) w.way.comes f
