-- How large a grid is asked for.
use Rattle.std.specs.Prelude.{◌≡◌, ◌≤◌, ℕ, ◌%◌, Bool, ◌&&◌, ◌==◌, List, [], ◌∷◌, length, nat_le, nat_lt, if◌then◌else◌, Option, Some, None}
use Rattle.std.specs.Char.{is_ascii_digit}
use Rattle.std.specs.List.{list_all}
use Rattle.std.specs.Str.Parse.{digits_value}

-- a grid of so many cells a side can be asked for: an even number from 2 to 200, as two by two cells are a tile
pub record CanBeAsked (n : ℕ) : Type 0 where
  pub even : n % 2 ≡ 0
  pub least : 2 ≤ n
  pub most : n ≤ 200

-- the same, as a test
abbrev pub is_grid_side : ℕ → Bool
is_grid_side n = n % 2 == 0 && (nat_le 2 n && nat_le n 200)

-- one to three digits
abbrev pub are_few_digits : List ℕ → Bool
are_few_digits word = nat_lt 0 (length word) && (nat_le (length word) 3 && list_all is_ascii_digit word)

-- the number of a word of one to three digits
abbrev pub side_in : List ℕ → Option ℕ
side_in word = if are_few_digits word then Some (digits_value 10 word) else None

-- a number of cells that a side may have
abbrev pub side_cells : Option ℕ → Option ℕ
side_cells None = None
side_cells (Some n) = if is_grid_side n then Some n else None

-- the request that the words after the verb spell, by its number of cells
abbrev pub drill_request : List (List ℕ) → Option ℕ
drill_request (word ∷ []) = side_cells (side_in word)
drill_request words = None

-- what words ask for can be asked for
abbrev pub RequestsCanBeAsked : Type 0
RequestsCanBeAsked = (words : List (List ℕ)) (n : ℕ) → drill_request words ≡ Some n → CanBeAsked n
