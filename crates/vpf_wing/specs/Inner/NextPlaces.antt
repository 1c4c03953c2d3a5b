-- The nexts of the darts of a tile, as they are kept: the place of the next of each place.
use Rattle.std.specs.Prelude.{◌≡◌, ℕ, ◌*◌, ◌^◌, ◌<◌, List, length, slice_index_or}
use Rattle.vpf_prims.specs.declared.rows.Edge.{Edge}
use Rattle.vpf_wing.specs.Places.{next_place}

-- the next of a place in a list of nexts; past the end each is its own
abbrev pub next_in : List ℕ → ℕ → ℕ
next_in nexts p = slice_index_or nexts p p

-- no two places have one next
abbrev pub IsApart : (ℕ → ℕ) → Type 0
IsApart next = (p q : ℕ) → next p ≡ next q → p ≡ q

-- places below n have nexts below n
abbrev pub StayBelow : (ℕ → ℕ) → ℕ → Type 0
StayBelow next n = (p : ℕ) → p < n → next p < n

-- the list holds the next of each place of these edges, and each place has one of its own
pub record AreNextPlaces (edges : List Edge) (nexts : List ℕ) : Type 0 where
  pub few : length edges < 2 ^ 24
  pub count : length nexts ≡ 2 * length edges
  pub each : (p : ℕ) → next_in nexts p ≡ next_place edges p
  pub below : StayBelow (next_in nexts) (length nexts)
  pub apart : IsApart (next_in nexts)
