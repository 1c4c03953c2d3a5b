-- Rows that rise, and the bits of a bitmap.
use Rattle.std.proofs.Common.{◌≡◌, ℕ, zero, suc, ◌+◌, ◌-◌, ◌*◌, ◌%◌, ◌^◌, ◌<◌, ◌≤◌, Bool, true, false, ◌==◌, nat_eq, List, [], ◌∷◌, length, map, get_or, refl, sym, ◌∙◌, arith, inl, inr}
use Rattle.std.specs.Prelude.{All, MatchBool, bit_or}
use Rattle.std.specs.List.{list_any}
use Rattle.std.specs.List.Sorted.{IsStrictlyIncreasing}
use Rattle.std.proofs.lemmas.Bool.{cases_lt, cases_eq, eqb-true, eq-eqb, ne_eqb, false≢true}
use Rattle.std.proofs.lemmas.List.{get_or-map, length-map}
use Rattle.std.proofs.lemmas.List.FromFn.{sum_by-map-range_with_len_more}
use Rattle.std.proofs.lemmas.Nat.{or_disjoint}
use Rattle.std.proofs.lemmas.Nat.Bits.{and_pow}
use Rattle.std.proofs.Math.Nat.{div-eq_of_lt, mod-eq_of_lt, pow-succ'}
use Rattle.std.proofs.Math.Pow.{pow-lt}
use Rattle.vpf_base.proofs.Booleans.{or_true}
use Rattle.vpf_theme_build.specs.declared.grouping.Spot.{Spot}
use Rattle.vpf_theme_build.specs.Grouping.{IsNext, spot_row}
use Rattle.vpf_theme_build.specs.Text.{bit_of, row_bits}

-- ---- rows that rise

rise_by : (rows : List ℕ) (i d : ℕ) → IsStrictlyIncreasing rows → i + suc d < length rows → get_or rows i 0 < get_or rows (i + suc d) 0
rise_by rows i zero r h = let e : i + suc zero ≡ i + 1 = omega arith in rw e (r i (omega arith))
rise_by rows i (suc d) r h =
    let e : i + suc (suc d) ≡ i + suc d + 1 = omega arith in
    let a = rise_by rows i d r (omega arith) in
    let b = r (i + suc d) (omega arith) in
    rw e (omega (arith, a, b))

rise : (rows : List ℕ) (i j : ℕ) → IsStrictlyIncreasing rows → i < j → j < length rows → get_or rows i 0 < get_or rows j 0
rise rows i j r a b = let e : i + suc (j - (i + 1)) ≡ j = omega arith in let x = rise_by rows i (j - (i + 1)) r (omega arith) in rw e at x

any_none : (rows : List ℕ) (row : ℕ) → ((i : ℕ) → i < length rows → get_or rows i 0 ≡ row → ⊥) → list_any (λ r. r == row) rows ≡ false
any_none [] row h = refl
any_none (x ∷ rows) row h = rw (ne_eqb x row (h zero (omega arith))) (any_none rows row (λ i m. h (suc i) (omega arith)))

any_some : (rows : List ℕ) (row i : ℕ) → i < length rows → get_or rows i 0 ≡ row → list_any (λ r. r == row) rows ≡ true
any_some [] row i h e = absurd (omega arith)
any_some (x ∷ rows) row zero h e = rw (eq-eqb x row e) refl
any_some (x ∷ rows) row (suc i) h e = rw (any_some rows row i (omega arith) e, or_true) refl

any_case : (b : Bool) (rows : List ℕ) (next row : ℕ) → nat_eq (get_or rows next 0) row ≡ b → IsNext rows next row → IsStrictlyIncreasing rows → next < length rows → b ≡ list_any (λ r. r == row) rows
any_case true rows next row t n r h = sym (any_some rows row next h (eqb-true (get_or rows next 0) row t))
any_case false rows next row t n r h = sym (any_none rows row (λ i m e. elim (cases_lt i next) [
  | inl lt ↦ omega (arith, n.below i lt, e)
  | inr ge ↦ elim (cases_eq i next) [
    | inl q ↦ let u : nat_eq (get_or rows next 0) row ≡ true = eq-eqb (get_or rows next 0) row (rw q at e) in false≢true (sym t ∙ u)
    | inr q ↦ let a = rise rows next i r (omega arith) m in omega (arith, a, n.above next (omega arith) h, e)
  ]
]))

pub any_next : (rows : List ℕ) (next row : ℕ) → IsNext rows next row → IsStrictlyIncreasing rows → next < length rows → nat_eq (get_or rows next 0) row ≡ list_any (λ r. r == row) rows
any_next rows next row n r h = any_case (nat_eq (get_or rows next 0) row) rows next row refl n r h

pub any_past : (rows : List ℕ) (next row : ℕ) → IsNext rows next row → (next < length rows → ⊥) → list_any (λ r. r == row) rows ≡ false
any_past rows next row n h = any_none rows row (λ i m e. omega (arith, n.below i (omega (arith, h, n.inside)), e))

pub next_match : (b : Bool) (rows : List ℕ) (next row : ℕ) → nat_eq (get_or rows next 0) row ≡ b → IsNext rows next row → IsStrictlyIncreasing rows → next < length rows → MatchBool b (IsNext rows (next + 1) (row + 1)) (IsNext rows next (row + 1))
next_match true rows next row t n r h =
    let e = eqb-true (get_or rows next 0) row t in
    record {
      inside = omega arith;
      below = λ i m. elim (cases_lt i next) [ inl lt ↦ omega (arith, n.below i lt) | inr ge ↦ let q : i ≡ next = omega arith in rw q (omega (arith, e)) ];
      above = λ i a m. let b = rise rows next i r (omega arith) m in omega (arith, b, e);
    }
next_match false rows next row t n r h =
    let low = n.above next (omega arith) h in
    let apart : get_or rows next 0 ≡ row → ⊥ = λ e. false≢true (sym t ∙ eq-eqb (get_or rows next 0) row e) in
    record {
      inside = n.inside;
      below = λ i m. omega (arith, n.below i m);
      above = λ i a m. elim (cases_lt next i) [
        | inl lt ↦ let b = rise rows next i r lt m in omega (arith, b, low)
        | inr ge ↦ let q : i ≡ next = omega arith in rw q (omega (arith, low, apart))
      ];
    }

pub next_past : (rows : List ℕ) (next row : ℕ) → IsNext rows next row → (next < length rows → ⊥) → IsNext rows next (row + 1)
next_past rows next row n h = record { inside = n.inside; below = λ i m. omega (arith, n.below i m); above = λ i a m. absurd (h (omega arith)) }

pub row_there : (spots : List Spot) (k : ℕ) (spot : Spot) → k < length spots → (get_or spots k spot).row ≡ get_or (map spot_row spots) k 0
row_there spots k spot h = sym (get_or-map spot_row spots k spot 0 h)

-- ---- bits

pub bits_more : (rows : List ℕ) (first b : ℕ) → row_bits rows first (b + 1) ≡ row_bits rows first b + bit_of rows first b
bits_more rows first b = sum_by-map-range_with_len_more (λ (x : ℕ). x) (bit_of rows first) 0 b b (omega arith)

pub or_bit : (n b : ℕ) → n < 2 ^ b → bit_or n (2 ^ b) ≡ n + 2 ^ b
or_bit n b h = or_disjoint n (2 ^ b) (and_pow n b ∙ rw (div-eq_of_lt h) (omega arith))

pub below_more : (n b : ℕ) → n < 2 ^ b → n + 2 ^ b < 2 ^ (b + 1)
below_more n b h = let e : b + 1 ≡ suc b = omega arith in rw e (omega (arith, pow-succ' 2 b))

pub next_first : (spots : List Spot) → All (λ (s : Spot). 1 ≤ s.row) spots → IsNext (map spot_row spots) 0 1
next_first spots h = record {
  inside = omega arith;
  below = λ i m. absurd (omega arith);
  above = λ i a m. let k : i < length spots = omega (arith, length-map spots spot_row) in above_at spots i h k;
}
  where
    above_at : (spots : List Spot) (i : ℕ) → All (λ (s : Spot). 1 ≤ s.row) spots → i < length spots → 1 ≤ get_or (map spot_row spots) i 0
    above_at [] i h k = absurd (omega arith)
    above_at (s ∷ spots) zero h k = h zero s (omega arith)
    above_at (s ∷ spots) (suc i) h k = above_at spots i (λ j d m. h (suc j) d (omega arith)) (omega arith)

small_pow : (b : ℕ) → b < 8 → 1 * 2 ^ b % 256 ≡ 2 ^ b
small_pow b h =
    let e : 1 * 2 ^ b ≡ 2 ^ b = omega arith in
    let k : 2 ^ b < 2 ^ 8 = pow-lt h in
    rw e (mod-eq_of_lt k)

pub byte_set : (rows : List ℕ) (first b byte new : ℕ) → b < 8 → true ≡ list_any (λ row. row == first + b) rows → byte ≡ row_bits rows first b → byte < 2 ^ b → new ≡ bit_or byte (1 * 2 ^ b % 256) → new ≡ row_bits rows first (b + 1)
byte_set rows first b byte new h any is small e =
    let o = or_bit byte b small in
    let p = small_pow b h in
    let f = rw (p, o, is) at e in
    e' f
  where
    e' : new ≡ row_bits rows first b + 2 ^ b → new ≡ row_bits rows first (b + 1)
    e' f = f ∙ sym (bits_more rows first b ∙ rw (← any) refl)

pub byte_small : (b byte new : ℕ) → b < 8 → byte < 2 ^ b → new ≡ bit_or byte (1 * 2 ^ b % 256) → new < 2 ^ (b + 1)
byte_small b byte new h small e =
    let o = or_bit byte b small in
    let p = small_pow b h in
    let f = rw (p, o) at e in
    rw f (below_more byte b small)

pub byte_clear : (rows : List ℕ) (first b byte : ℕ) → false ≡ list_any (λ row. row == first + b) rows → byte ≡ row_bits rows first b → byte ≡ row_bits rows first (b + 1)
byte_clear rows first b byte any is = is ∙ sym (bits_more rows first b ∙ rw (← any) (omega arith))

pub still_small : (b byte : ℕ) → byte < 2 ^ b → byte < 2 ^ (b + 1)
still_small b byte h = let k = below_more byte b h in omega (arith, k)
