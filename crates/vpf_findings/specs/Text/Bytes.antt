-- How bytes are printed.
use Rattle.std.specs.Prelude.{ℕ, ◌+◌, ◌-◌, ◌/◌, ◌%◌, ◌==◌, Bool, ◌&&◌, not, nat_lt, nat_le, List, [], ◌∷◌, if◌then◌else◌}
use Rattle.std.specs.List.{flat_map}
use Rattle.vpf_base.specs.Bytes.{backslash}
use Rattle.vpf_findings.specs.Text.Texts.{◌&◌}

abbrev pub quote : ℕ
quote = 34

-- a digit of base 16: `0` to `9`, then `a` to `f`
abbrev pub hex_digit : ℕ → ℕ
hex_digit n = if nat_lt n 10 then 48 + n else 97 - 10 + n

-- the two digits of a byte
abbrev pub hex_byte : ℕ → List ℕ
hex_byte b = hex_digit (b / 16) ∷ hex_digit (b % 16) ∷ []

abbrev pub hex_bytes : List ℕ → List ℕ
hex_bytes bytes = flat_map hex_byte bytes

-- a byte that is printed as itself: from the space to the tilde, but for the quote and the backslash
abbrev pub is_plain : ℕ → Bool
is_plain b = nat_le 32 b && nat_le b 126 && not (b == quote) && not (b == backslash)

abbrev pub printed_byte : ℕ → List ℕ
printed_byte b = if is_plain b then b ∷ [] else backslash ∷ hex_byte b

-- a name or a description
abbrev pub printed : List ℕ → List ℕ
printed bytes = flat_map printed_byte bytes

-- the text of a cell
abbrev pub quoted : List ℕ → List ℕ
quoted bytes = (quote ∷ []) & printed bytes & (quote ∷ [])
