-- Digits, one by one.
use Rattle.std.proofs.Common.{◌≡◌, ℕ, zero, suc, ◌+◌, ◌-◌, ◌*◌, ◌<◌, ◌≤◌, Bool, true, List, [], ◌∷◌, length, take, get_or, refl, arith, ltb, false}
use Rattle.std.proofs.lemmas.Bool.{leb-true, le-ltb, lt-ltb}
use Rattle.std.proofs.lemmas.Int.Digits.{digits_value_more}
use Rattle.std.specs.Char.{digit_value, is_ascii_digit}
use Rattle.std.specs.List.{list_all}
use Rattle.std.specs.Prelude.{nat_le}
use Rattle.std.specs.Str.Parse.{digits_value}
use Rattle.vpf_base.proofs.Booleans.{both}

-- one of a list that all pass a test
pub all_at : (p : ℕ → Bool) (ds : List ℕ) (i : ℕ) → i < length ds → list_all p ds ≡ true → p (get_or ds i 0) ≡ true
all_at p [] i within h = absurd (omega arith)
all_at p (d ∷ ds) zero within h = (both (p d) (list_all p ds) h).0
all_at p (d ∷ ds) (suc i) within h = all_at p ds i (omega arith) (both (p d) (list_all p ds) h).1

-- the bytes of the digits, and what they are worth
pub digit_is : (d : ℕ) → is_ascii_digit d ≡ true → (48 ≤ d) × (d ≤ 57) × (digit_value d ≡ d - 48)
digit_is d h =
    let between = both (nat_le 48 d) (nat_le d 57) h in
    let low = leb-true 48 d between.0 in
    let high = leb-true d 57 between.1 in
    let not_below : ltb d 48 ≡ false = le-ltb d 48 low in
    let not_above : ltb d 58 ≡ true = lt-ltb d 58 (omega arith) in
    (low, high, rw (not_below, not_above) refl)

-- one digit more
pub one_digit_more : (ds : List ℕ) (i : ℕ) → i < length ds → list_all is_ascii_digit ds ≡ true
    → (48 ≤ get_or ds i 0) × (get_or ds i 0 ≤ 57) × (digits_value 10 (take (i + 1) ds) ≡ digits_value 10 (take i ds) * 10 + (get_or ds i 0 - 48))
one_digit_more ds i within h =
    let digit = digit_is (get_or ds i 0) (all_at is_ascii_digit ds i within h) in
    let worth = digit.2 in
    (digit.0, digit.1, rw (digits_value_more 10 ds i within, worth) refl)
