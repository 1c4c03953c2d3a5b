-- Words of digits.
use Rattle.std.proofs.Common.{◌≡◌, ℕ, ◌^◌, ◌%◌, ◌<◌, ◌≤◌, Bool, true, false, cond, ◌&&◌, List, [], ◌∷◌, length, get_or, Option, Some, None, Ok, Err, refl, sym, ap, ◌∙◌, subst, arith}
use Rattle.std.specs.Char.{is_ascii_digit}
use Rattle.std.specs.List.{list_all}
use Rattle.std.specs.Prelude.{◌==◌, nat_le, nat_lt}
use Rattle.std.specs.Str.Parse.{AllDigits, IsNumeral, ParsesUnsigned, digits_value, without_leading_plus}
use Rattle.std.specs.Prelude.{Result}
use Rattle.std.specs.Result.{result_ok}
use Rattle.std.proofs.Math.Nat.{pow-le-pow_right}
use Rattle.std.proofs.lemmas.Bool.{eqb-true, leb-true, ltb-true}
use Rattle.std.proofs.lemmas.Int.Digits.{digits_value-lt}
use Rattle.std.proofs.lemmas.Str.Parse.{without_leading_plus_none}
use Rattle.vpf_base.proofs.Booleans.{both}
use Rattle.vpf_base.proofs.Digits.{all_at, digit_is}
use Rattle.vpf_drill.specs.Request.{CanBeAsked, RequestsCanBeAsked, are_few_digits, side_cells, is_grid_side, side_in}

-- digits of base 10 are such
all_are : (ds : List ℕ) → list_all is_ascii_digit ds ≡ true → AllDigits 10 ds
all_are [] h = tt
all_are (d ∷ ds) h =
    let parts = both (is_ascii_digit d) (list_all is_ascii_digit ds) h in
    let digit = digit_is d parts.0 in
    (omega (arith, digit.0, digit.1, digit.2), all_are ds parts.1)

-- one to three digits are a numeral without a sign, of a number below 2^32
pub are_numeral : (ds : List ℕ) → are_few_digits ds ≡ true
    → (without_leading_plus ds ≡ ds) × IsNumeral 10 ds × (digits_value 10 ds < 2 ^ 32)
are_numeral ds h =
    let outer = both (nat_lt 0 (length ds)) _ h in
    let inner = both (nat_le (length ds) 3) (list_all is_ascii_digit ds) outer.1 in
    let some : 0 < length ds = ltb-true 0 (length ds) outer.0 in
    let few : length ds ≤ 3 = leb-true (length ds) 3 inner.0 in
    let first = digit_is (get_or ds 0 0) (all_at is_ascii_digit ds 0 some inner.1) in
    let all = all_are ds inner.1 in
    let below : digits_value 10 ds < 10 ^ length ds = digits_value-lt 10 ds all in
    let most : 10 ^ length ds ≤ 10 ^ 3 = pow-le-pow_right (omega arith) few in
    (without_leading_plus_none ds (λ e. omega (arith, first.0, e)), (some, all), omega (arith, below, most))

-- so they are parsed
pub parsed : {E : Type 0} → (ds : List ℕ) (r : Result ℕ E) → are_few_digits ds ≡ true → ParsesUnsigned 32 10 ds r → result_ok r ≡ Some (digits_value 10 ds)
parsed ds (Ok n) h p = ap Some (p.1 ∙ ap (digits_value 10) (are_numeral ds h).0)
parsed ds (Err e) h p =
    let is = are_numeral ds h in
    absurd (p (subst (IsNumeral 10) (sym is.0) is.1, subst (λ bs. digits_value 10 bs < 2 ^ 32) (sym is.0) is.2))

-- what is asked for can be
side_is : (n : ℕ) → is_grid_side n ≡ true → CanBeAsked n
side_is n h =
    let outer = both (n % 2 == 0) (nat_le 2 n && nat_le n 200) h in
    let inner = both (nat_le 2 n) (nat_le n 200) outer.1 in
    record { even = eqb-true (n % 2) 0 outer.0; least = leb-true 2 n inner.0; most = leb-true n 200 inner.1 }

cells_are : (o : Option ℕ) (n : ℕ) → side_cells o ≡ Some n → CanBeAsked n
cells_are None n e = absurd cc
cells_are (Some m) n e = by (is_grid_side m) refl e
  where
    by : (b : Bool) → is_grid_side m ≡ b → cond b (Some m) None ≡ Some n → CanBeAsked n
    by true side f = let same : m ≡ n = cc in subst CanBeAsked same (side_is m side)
    by false side f = absurd cc

pub asked : RequestsCanBeAsked
asked (word ∷ []) n e = cells_are (side_in word) n e
asked [] n e = absurd cc
asked (word ∷ other ∷ words) n e = absurd cc
