-- What a value word says, by the kind and the count of a column.
use Rattle.std.specs.Prelude.{◌≡◌, ℕ, ◌-◌, ◌^◌, ◌==◌, Bool, ◌&&◌, ◌||◌, nat_lt, nat_le, ℤ, pos, neg_ℤ, List, [], ◌∷◌, ◌++◌, length, drop, replicate, if◌then◌else◌, Option, Some, None, option_map, option_and_then, Result, Ok, Err}
use Rattle.std.specs.Char.{is_ascii_digit}
use Rattle.std.specs.Int.{is_in_range}
use Rattle.std.specs.List.{list_all}
use Rattle.std.specs.Str.Parse.{digits_value, starts_with_minus}
use Rattle.vpf_head.specs.Bytes.{space}
use Rattle.vpf_triplet.specs.declared.kinds.Kind.{Kind}
use Rattle.vpf_triplet.specs.declared.kinds.Kind.TheVariants as kinds
use Rattle.vpf_triplet.specs.declared.kinds.Count.{Count}
use Rattle.vpf_triplet.specs.declared.kinds.Count.TheVariants.{Fixed, Star}
use Rattle.vpf_value.specs.Values.{Value, TextOf, Word4Of, Word8Of, NumberOf, DateOf, date_bytes}
use Rattle.vpf_select.specs.declared.value.ValueError.{ValueError}
use Rattle.vpf_select.specs.declared.value.ValueError.TheVariants as errors

abbrev pub letter_w : ℕ
letter_w = 119

-- the bytes of the word, filled with spaces to the width; of a longer word nothing
abbrev pub filled : ℕ → List ℕ → Option (List ℕ)
filled width word = if nat_le (length word) width then Some (word ++ replicate (width - length word) space) else None

-- a text: as many bytes as the column has, or as they are where each row says how many
abbrev pub text_in : Count → List ℕ → Option Value
text_in (Fixed n) word = option_map TextOf (filled n word)
text_in Star word = if nat_lt (length word) (2 ^ 32) then Some (TextOf word) else None

-- one or more digits of base 10
abbrev pub are_digits : List ℕ → Bool
are_digits ds = nat_lt 0 (length ds) && list_all is_ascii_digit ds

-- the number that digits give
abbrev pub digits_in : List ℕ → Option ℕ
digits_in ds = if are_digits ds then Some (digits_value 10 ds) else None

-- the number below zero, down to a half of the words of a width
abbrev pub negative : ℕ → ℕ → Option ℤ
negative half n = if nat_le n half then Some (neg_ℤ (pos n)) else None

-- the number from zero on, below that half
abbrev pub positive : ℕ → ℕ → Option ℤ
positive half n = if nat_lt n half then Some (pos n) else None

-- a signed number: digits, or a minus and digits
abbrev pub number_in : ℕ → List ℕ → Option ℤ
number_in half word = if starts_with_minus word then option_and_then (negative half) (digits_in (drop 1 word)) else option_and_then (positive half) (digits_in word)

-- a digit of base 16, in lower case
abbrev pub is_hex : ℕ → Bool
is_hex b = is_in_range 48 57 b || is_in_range 97 102 b

-- the word of a float: a `w` and so many digits of base 16
abbrev pub word_in : ℕ → List ℕ → Option ℕ
word_in n [] = None
word_in n (b ∷ digits) = if b == letter_w && length digits == n && list_all is_hex digits then Some (digits_value 16 digits) else None

-- the value that a word has in a column of this kind and count
unfoldable pub value_in : Kind → Count → List ℕ → Option Value
value_in kinds.T count word = text_in count word
value_in kinds.L count word = text_in count word
value_in kinds.M count word = text_in count word
value_in kinds.N count word = text_in count word
value_in kinds.F count word = option_map Word4Of (word_in 8 word)
value_in kinds.R count word = option_map Word8Of (word_in 16 word)
value_in kinds.S count word = option_map NumberOf (number_in (2 ^ 15) word)
value_in kinds.I count word = option_map NumberOf (number_in (2 ^ 31) word)
value_in kinds.D count word = option_map DateOf (filled date_bytes word)
value_in kind count word = None

-- Ok with what the word says, and Bad exactly where it says nothing; of memory nothing is said
abbrev pub Says : {V X : Type 0} → (V → X) → Result V ValueError → Option X → Type 0
Says view (Ok v) said = said ≡ Some (view v)
Says view (Err errors.Bad) said = said ≡ None
Says view (Err errors.NoMemory) said = Unit {0}
