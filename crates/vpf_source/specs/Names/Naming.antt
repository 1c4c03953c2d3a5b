-- The files that words name.
use Rattle.std.specs.Prelude.{ℕ, ◌==◌, ◌&&◌, Bool, not, List, [], ◌∷◌, ◌++◌, filter, length, Option, Some, None, codes, nat_eq, if◌then◌else◌}
use Rattle.std.specs.List.{flat_map, slice_split, starts_with}
use Rattle.std.specs.Str.{bytes_eq}

abbrev pub slash : ℕ
slash = 47

-- the pieces of a text between its slashes
abbrev pub pieces_of : List ℕ → List (List ℕ)
pieces_of text = slice_split (λ b. b == slash) text

-- a piece between slashes is a part of a name, unless it is empty or `.`
abbrev pub is_part : List ℕ → Bool
is_part piece = not (length piece == 0) && not (bytes_eq piece (codes "."))

-- the parts of a word, which slashes part
abbrev pub parts_of : List ℕ → List (List ℕ)
parts_of word = filter is_part (pieces_of word)

-- parts with a slash between any two
abbrev pub joined_parts : List (List ℕ) → List ℕ
joined_parts [] = []
joined_parts (part ∷ parts) = part ++ flat_map (λ other. slash ∷ other) parts

-- the word begins at the root
abbrev pub is_rooted : List ℕ → Bool
is_rooted word = starts_with nat_eq word (slash ∷ [])

-- the slash of a word that begins at the root
abbrev pub root_of : List ℕ → List ℕ
root_of word = if is_rooted word then slash ∷ [] else []

-- a name that isn't empty
abbrev pub named : List ℕ → Option (List ℕ)
named [] = None
named (b ∷ bs) = Some (b ∷ bs)

-- the file that a word names: its parts, with a slash before them where it begins at the root; none where there are no parts
abbrev pub file_name : List ℕ → Option (List ℕ)
file_name word = named (root_of word ++ joined_parts (parts_of word))

-- the coverage that a word names: its parts, also where the word begins at the root; none where there are no parts
abbrev pub coverage_name : List ℕ → Option (List ℕ)
coverage_name word = named (joined_parts (parts_of word))
