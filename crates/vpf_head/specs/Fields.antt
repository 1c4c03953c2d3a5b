-- What the items of a column definition say (MIL-STD-2407, 5.4, table header: column definitions).
use Rattle.std.specs.Prelude.{ℕ, ◌&&◌, not, bytes_eq, List, [], ◌∷◌, length, Option, Some, None, nat_le, ◌==◌, if◌then◌else◌}
use Rattle.std.specs.Char.{is_ascii_digit, is_ascii_uppercase, encode_utf8}
use Rattle.std.specs.List.{list_all}
use Rattle.std.specs.Str.Parse.{digits_value}
use Rattle.std.specs.Prelude.{codes as text}
use Rattle.vpf_base.specs.Limits.{most_values}
use Rattle.vpf_triplet.specs.declared.kinds.Count.{Count}
use Rattle.vpf_triplet.specs.declared.kinds.Count.TheVariants.{Fixed, Star}
use Rattle.vpf_head.specs.declared.columns.Key.{Key}
use Rattle.vpf_head.specs.declared.columns.Key.TheVariants.{Primary, Unique, Many, Other}
use Rattle.vpf_head.specs.Bytes.{hyphen, star, space}

-- the letter of a key in a header
abbrev pub key_text : Key → List ℕ
key_text Primary = text "P"
key_text Unique = text "U"
key_text Many = text "N"
key_text (Other letter) = encode_utf8 letter

-- the key of a letter: any other capital letter is one that the standard gives no meaning
abbrev pub letter_key : ℕ → Option Key
letter_key b =
    if bytes_eq (b ∷ []) (text "P") then Some Primary
    else if bytes_eq (b ∷ []) (text "U") then Some Unique
    else if bytes_eq (b ∷ []) (text "N") then Some Many
    else if is_ascii_uppercase b then Some (Other b)
    else None

-- the key that the item is the letter of
abbrev pub key_of : List ℕ → Option Key
key_of (b ∷ []) = letter_key b
key_of item = None

-- the item without the spaces that it begins with
abbrev pub after_spaces : List ℕ → List ℕ
after_spaces [] = []
after_spaces (b ∷ item) = if b == space then after_spaces item else b ∷ item

-- the count that digits give
abbrev pub digits_count : List ℕ → Option Count
digits_count digits =
    if length digits == 0 then None
    else if not (list_all is_ascii_digit digits) then None
    else if nat_le 1 (digits_value 10 digits) && nat_le (digits_value 10 digits) most_values then Some (Fixed (digits_value 10 digits))
    else None

-- a count without spaces: `*`, or digits
abbrev pub bare_count : List ℕ → Option Count
bare_count (b ∷ []) = if b == star then Some Star else digits_count (b ∷ [])
bare_count item = digits_count item

-- the count that the item gives: spaces may stand before it
abbrev pub count_in : List ℕ → Option Count
count_in item = bare_count (after_spaces item)

-- the name that the item gives: it is absent where the item is empty or `-`
abbrev pub present : List ℕ → Option (List ℕ)
present [] = None
present (b ∷ []) = if b == hyphen then None else Some (b ∷ [])
present (b ∷ c ∷ item) = Some (b ∷ c ∷ item)
