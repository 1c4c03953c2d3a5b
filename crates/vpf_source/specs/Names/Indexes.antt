-- The names of variable-length indexes.
use Rattle.std.specs.Prelude.{ℕ, ◌-◌, Bool, List, ◌++◌, length, take, chars, codes, encode_utf8_all, nat_eq}
use Rattle.std.specs.List.{ends_with}

-- a name whose last character is `x`
abbrev pub ends_in_x : List ℕ → Bool
ends_in_x name = ends_with nat_eq name (codes "x")

-- the text without its last character
abbrev pub without_last : List ℕ → List ℕ
without_last text = encode_utf8_all (take (length (chars text) - 1) (chars text))

-- the name of a table's variable-length index: the table's, with `x` for the last character (MIL-STD-2407, 5.2, names of files)
abbrev pub index_name : List ℕ → List ℕ
index_name name = without_last name ++ codes "x"
