-- The folder of a file, and its name there.
use Rattle.std.specs.Prelude.{◌≡◌, ℕ, ◌==◌, Bool, true, false, List, [], ◌∷◌, ◌++◌, length, Option, Some, None}
use Rattle.std.specs.List.{flat_map}
use Rattle.vpf_source.specs.Names.Naming.{slash, pieces_of}

-- the last of some pieces
abbrev pub last_of : List (List ℕ) → List ℕ
last_of [] = []
last_of (piece ∷ []) = piece
last_of (piece ∷ other ∷ pieces) = last_of (other ∷ pieces)

-- the pieces before the last
abbrev pub front_of : List (List ℕ) → List (List ℕ)
front_of [] = []
front_of (piece ∷ []) = []
front_of (piece ∷ other ∷ pieces) = piece ∷ front_of (other ∷ pieces)

-- the name of a file in its folder, and the folders before it; none where nothing stands behind the last slash, as in the root alone
abbrev pub split_by : Bool → List (List ℕ) → Option (List ℕ × List (List ℕ))
split_by true pieces = None
split_by false pieces = Some (last_of pieces, front_of pieces)

abbrev pub split_of : List (List ℕ) → Option (List ℕ × List (List ℕ))
split_of pieces = split_by (length (last_of pieces) == 0) pieces

-- pieces are so split
abbrev pub IsSplit : List (List ℕ) → Option (List ℕ × List (List ℕ)) → Type 0
IsSplit pieces split = split ≡ split_of pieces

abbrev pub part_in : List ℕ → Option (List ℕ × List (List ℕ)) → List ℕ
part_in name None = name
part_in name (Some split) = split.0

-- the name of a file in its folder: what stands behind its last slash; the root is a name like any other
abbrev pub last_part : List ℕ → List ℕ
last_part name = part_in name (split_of (pieces_of name))

-- a folder and the slash behind it
abbrev pub opened : List ℕ → List ℕ
opened folder = folder ++ slash ∷ []

abbrev pub folder_in : Option (List ℕ × List (List ℕ)) → List ℕ
folder_in None = []
folder_in (Some split) = flat_map opened split.1

-- what stands before that name, with its last slash
abbrev pub folder_of : List ℕ → List ℕ
folder_of name = folder_in (split_of (pieces_of name))
