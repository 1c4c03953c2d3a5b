-- Listings of tile darts, kept as one list and the places where its pieces end.
use Rattle.std.specs.Prelude.{◌≡◌, ℕ, ◌≤◌, List, [], ◌∷◌, map, zero, suc}
use Rattle.std.specs.List.{slice_range}
use Rattle.vpf_darts.specs.declared.darts.TileDart.{TileDart}
use Rattle.vpf_darts.specs.Darts.{tile_dart_code}

-- the numbers of the darts of each list
abbrev pub numbers_of : List (List TileDart) → List (List ℕ)
numbers_of lists = map (map tile_dart_code) lists

-- the pieces of a list that end at these places, where the first begins at start
abbrev pub pieces : {A : Type 0} → ℕ → List ℕ → List A → List (List A)
pieces start [] xs = []
pieces start (end ∷ ends) xs = slice_range xs start end ∷ pieces end ends xs

-- the ends rise from start to n
abbrev pub RiseTo : ℕ → List ℕ → ℕ → Type 0
RiseTo start [] n = start ≡ n
RiseTo start (end ∷ ends) n = (start ≤ end) × RiseTo end ends n

-- where piece i begins
abbrev pub begin_of : ℕ → List ℕ → ℕ → ℕ
begin_of start ends zero = start
begin_of start [] (suc i) = start
begin_of start (end ∷ ends) (suc i) = begin_of end ends i
