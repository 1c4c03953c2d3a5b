-- The files that headers name (MIL-STD-2407, 5.4, table header).
use Rattle.std.specs.Prelude.{ℕ, ◌==◌, ◌&&◌, ◌||◌, nat_le, Bool, not, List, [], ◌∷◌, ◌++◌, length, map, Option, Some, None, codes, if◌then◌else◌}
use Rattle.std.specs.Char.{to_ascii_lowercase}
use Rattle.std.specs.List.{list_all}
use Rattle.std.specs.Str.{bytes_eq}
use Rattle.vpf_base.specs.Bytes.{backslash}
use Rattle.vpf_source.specs.Names.Naming.{slash}
use Rattle.vpf_source.specs.Names.Folders.{folder_of}

-- what may stand before and behind the name in its item: spaces and zeros
abbrev pub is_padding : ℕ → Bool
is_padding b = b == 32 || b == 0

-- the item from its first byte on that is no padding
abbrev pub after_padding : List ℕ → List ℕ
after_padding [] = []
after_padding (b ∷ bs) = if is_padding b then after_padding bs else b ∷ bs

-- a byte before others that are kept
abbrev pub kept_before : ℕ → List ℕ → List ℕ
kept_before b [] = if is_padding b then [] else b ∷ []
kept_before b (c ∷ cs) = b ∷ c ∷ cs

-- the item up to its last byte that is no padding
abbrev pub before_padding : List ℕ → List ℕ
before_padding [] = []
before_padding (b ∷ bs) = kept_before b (before_padding bs)

-- the item without its padding
abbrev pub trimmed : List ℕ → List ℕ
trimmed item = before_padding (after_padding item)

-- a byte that a file in a folder may have in its name
abbrev pub is_letter : ℕ → Bool
is_letter b = nat_le 33 b && nat_le b 126 && not (b == slash) && not (b == backslash)

-- the folder itself, and the one that it lies in
abbrev pub is_dots : List ℕ → Bool
is_dots name = bytes_eq name (codes ".") || bytes_eq name (codes "..")

-- the name of a file that can lie in a folder
abbrev pub is_plain_name : List ℕ → Bool
is_plain_name name = not (length name == 0) && not (is_dots name) && list_all is_letter name

-- the name, its ASCII letters made small
abbrev pub small : List ℕ → List ℕ
small name = map to_ascii_lowercase name

-- a name in the folder of a file
abbrev pub beside : List ℕ → List ℕ → Option (List ℕ)
beside file name = if is_plain_name name then Some (folder_of file ++ small name) else None

-- The file that an item of a header names, in the folder of the table's file: without padding, and with small letters. None where no
-- file of a folder can have that name.
abbrev pub file_beside : List ℕ → List ℕ → Option (List ℕ)
file_beside file item = beside file (trimmed item)
