-- The names of tiles, filled with spaces, as the paths that they spell.
use Rattle.std.proofs.Common.{◌≡◌, ℕ, zero, suc, ◌+◌, ◌%◌, ◌^◌, ◌<◌, ◌≤◌, Bool, false, List, [], ◌∷◌, ◌++◌, refl, ap, ◌∙◌, arith}
use Rattle.std.specs.Prelude.{◌||◌, ◌==◌, replicate}
use Rattle.std.specs.Char.{to_ascii_lowercase}
use Rattle.std.specs.Fmt.{decimal}
use Rattle.std.specs.List.{AllByRecursion, slice_split}
use Rattle.std.proofs.lemmas.Bool.Decides.{nat_tests}
use Rattle.std.proofs.lemmas.Fmt.{decimal_by_steps}
use Rattle.vpf_base.specs.Bytes.{backslash}
use Rattle.vpf_source.specs.Names.Items.{is_padding, kept_before, before_padding, small, trimmed}
use Rattle.vpf_source.specs.Names.Naming.{slash}
use Rattle.vpf_head.specs.Bytes.{space}

-- the digits of a number
pub record IsDigit (b : ℕ) : Type 0 where
  pub from_first : 48 ≤ b
  pub to_last : b ≤ 57

one_more : (ds : List ℕ) (b : ℕ) → AllByRecursion IsDigit ds → IsDigit b → AllByRecursion IsDigit (ds ++ b ∷ [])
one_more [] b none digit = (digit, tt)
one_more (d ∷ ds) b all digit = (all.0, one_more ds b all.1 digit)

pub digits_of : (n : ℕ) → n < 2 ^ 64 → AllByRecursion IsDigit (decimal n)
digits_of n h =
    decimal_by_steps (λ n ds. AllByRecursion IsDigit ds) (λ n low. (record { from_first = omega arith; to_last = omega arith }, tt))
    (λ n ds low all. one_more ds (48 + n % 10) all (record { from_first = omega arith; to_last = omega arith })) n h

-- what is so of each digit is so of each of them
pub all_digits : (P : ℕ → Type 0) → ((b : ℕ) → IsDigit b → P b) → (ds : List ℕ) → AllByRecursion IsDigit ds → AllByRecursion P ds
all_digits P p [] all = tt
all_digits P p (d ∷ ds) all = (p d all.0, all_digits P p ds all.1)

-- a name of these digits
abbrev pub named : List ℕ → List ℕ
named ds = 116 ∷ ds

-- spaces behind a name are dropped
no_padding : (b : ℕ) → IsDigit b → is_padding b ≡ false
no_padding b d = let low = d.from_first in grind (arith, nat_tests)

spaces_dropped : (m : ℕ) → before_padding (replicate m space) ≡ []
spaces_dropped zero = refl
spaces_dropped (suc m) = ap (kept_before space) (spaces_dropped m)

alone : (b : ℕ) → is_padding b ≡ false → kept_before b [] ≡ b ∷ []
alone b h = rw h refl

spaces_behind : (text : List ℕ) (m : ℕ) → AllByRecursion (λ b. is_padding b ≡ false) text → before_padding (text ++ replicate m space) ≡ text
spaces_behind [] m all = spaces_dropped m
spaces_behind (b ∷ []) m all = ap (kept_before b) (spaces_dropped m) ∙ alone b all.0
spaces_behind (b ∷ c ∷ text) m all = ap (kept_before b) (spaces_behind (c ∷ text) m all.1)

pub name_trimmed : (ds : List ℕ) (m : ℕ) → AllByRecursion IsDigit ds → trimmed (named ds ++ replicate m space) ≡ named ds
name_trimmed ds m all = spaces_behind (named ds) m (refl, all_digits (λ b. is_padding b ≡ false) no_padding ds all)

-- its letters are small
digit_small : (b : ℕ) → IsDigit b → to_ascii_lowercase b ≡ b
digit_small b d = let high = d.to_last in grind (arith, nat_tests)

all_small : (text : List ℕ) → AllByRecursion (λ b. to_ascii_lowercase b ≡ b) text → small text ≡ text
all_small [] all = refl
all_small (b ∷ text) all = ap (λ c. c ∷ small text) all.0 ∙ ap (λ rest. b ∷ rest) (all_small text all.1)

pub name_small : (ds : List ℕ) → AllByRecursion IsDigit ds → small (named ds) ≡ named ds
name_small ds all = all_small (named ds) (refl, all_digits (λ b. to_ascii_lowercase b ≡ b) digit_small ds all)

-- and no slash parts it
abbrev is_parting : ℕ → Bool
is_parting b = b == slash || b == backslash

no_parting : (b : ℕ) → IsDigit b → is_parting b ≡ false
no_parting b d = let low = d.from_first in let high = d.to_last in grind (arith, nat_tests)

undivided : (text : List ℕ) → AllByRecursion (λ b. is_parting b ≡ false) text → slice_split is_parting text ≡ text ∷ []
undivided [] all = refl
undivided (b ∷ text) all = rw (all.0, undivided text all.1) refl

pub name_undivided : (ds : List ℕ) → AllByRecursion IsDigit ds → slice_split is_parting (named ds) ≡ named ds ∷ []
name_undivided ds all = undivided (named ds) (refl, all_digits (λ b. is_parting b ≡ false) no_parting ds all)
