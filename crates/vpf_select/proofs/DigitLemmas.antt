-- Digits, one by one.
use Rattle.std.proofs.Common.{◌≡◌, ℕ, ◌+◌, ◌-◌, ◌*◌, ◌^◌, ◌<◌, ◌≤◌, Bool, true, false, ◌||◌, List, [], ◌∷◌, length, take, get_or, refl, arith, ltb}
use Rattle.std.proofs.lemmas.Bool.{false≢true, leb-true, le-ltb, lt-ltb}
use Rattle.std.proofs.lemmas.Int.Digits.{digits_value_more, digits_value-lt}
use Rattle.std.proofs.lemmas.Str.Parse.{digits_value-take-le}
use Rattle.std.proofs.Math.Nat.{pow-le-pow_right}
use Rattle.std.specs.Char.{digit_value}
use Rattle.std.specs.Int.{is_in_range}
use Rattle.std.specs.List.{list_all}
use Rattle.std.specs.Prelude.{nat_le}
use Rattle.std.specs.Str.Parse.{AllDigits, digits_value}
use Rattle.vpf_base.proofs.Booleans.{both}
use Rattle.vpf_base.proofs.Digits.{all_at, digit_is}
use Rattle.vpf_select.specs.Words.{is_hex}

letter_is : (d : ℕ) → is_in_range 97 102 d ≡ true → (97 ≤ d) × (d ≤ 102) × (digit_value d ≡ d - 87)
letter_is d h =
    let t = both (nat_le 97 d) (nat_le d 102) h in
    let low = leb-true 97 d t.0 in
    let high = leb-true d 102 t.1 in
    let a : ltb d 48 ≡ false = le-ltb d 48 (omega arith) in
    let b : ltb d 58 ≡ false = le-ltb d 58 (omega arith) in
    let e : ltb d 65 ≡ false = le-ltb d 65 (omega arith) in
    let f : ltb d 91 ≡ false = le-ltb d 91 (omega arith) in
    let g : ltb d 97 ≡ false = le-ltb d 97 low in
    let k : ltb d 123 ≡ true = lt-ltb d 123 (omega arith) in
    (low, high, rw (a, b, e, f, g, k) refl)

-- a digit of base 16
pub record HexDigit (d : ℕ) : Type 0 where
  pub small : digit_value d < 16
  pub low : d ≤ 57 → (48 ≤ d) × (digit_value d ≡ d - 48)
  pub high : 57 < d → (97 ≤ d) × (d ≤ 102) × (digit_value d ≡ d - 87)

hex_case : (d : ℕ) (a b : Bool) → is_in_range 48 57 d ≡ a → is_in_range 97 102 d ≡ b → (a || b) ≡ true → HexDigit d
hex_case d true b e f h = let k = digit_is d e in let z = k.2 in record { small = omega (arith, k.0, k.1, z); low = λ l. (k.0, z); high = λ l. absurd (omega (arith, k.1, l)) }
hex_case d false true e f h = let k = letter_is d f in let z = k.2 in record { small = omega (arith, k.0, k.1, z); low = λ l. absurd (omega (arith, k.0, l)); high = λ l. (k.0, k.1, z) }
hex_case d false false e f h = absurd (false≢true h)

pub hex_is : (d : ℕ) → is_hex d ≡ true → HexDigit d
hex_is d h = hex_case d (is_in_range 48 57 d) (is_in_range 97 102 d) refl refl h

pub hex_at : (ds : List ℕ) (i : ℕ) → i < length ds → list_all is_hex ds ≡ true → is_hex (get_or ds i 0) ≡ true
hex_at ds i lt h = all_at is_hex ds i lt h

pub hex_digits : (ds : List ℕ) → list_all is_hex ds ≡ true → AllDigits 16 ds
hex_digits [] h = tt
hex_digits (d ∷ ds) h = let b = both (is_hex d) (list_all is_hex ds) h in ((hex_is d b.0).small, hex_digits ds b.1)

pub hex_below : (ds : List ℕ) → list_all is_hex ds ≡ true → digits_value 16 ds < 16 ^ length ds
hex_below ds h = digits_value-lt 16 ds (hex_digits ds h)

-- up to 16 digits of base 16, one more of which is read, stay below 2^64
pub hex_room : (ds : List ℕ) (i : ℕ) → i < length ds → length ds ≤ 16 → list_all is_hex ds ≡ true → digits_value 16 (take i ds) * 16 + digit_value (get_or ds i 0) < 2 ^ 64
hex_room ds i lt few h =
    let more = digits_value_more 16 ds i lt in
    let le = digits_value-take-le 16 ds (i + 1) (omega arith) in
    let below = hex_below ds h in
    let some : 0 < 16 = omega arith in
    let top : 16 ^ length ds ≤ 16 ^ 16 = pow-le-pow_right some few in
    omega (arith, more, le, below, top)
