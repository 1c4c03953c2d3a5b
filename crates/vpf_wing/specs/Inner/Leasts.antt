-- The least place of the cycle of each place, as it is found and kept.
use Rattle.std.specs.Prelude.{◌≡◌, ℕ, ◌*◌, ◌<◌, ◌≤◌, List, length, slice_index, slice_index_or}
use Rattle.vpf_darts.specs.Cycles.{count_of, IsCycle, first_of}
use Rattle.vpf_prims.specs.declared.rows.Edge.{Edge}
use Rattle.vpf_wing.specs.Places.{least_place}
use Rattle.vpf_wing.specs.Walks.{least_after}

-- the list holds, for each place, the least of its cycle
abbrev pub HoldLeasts : (ℕ → ℕ) → ℕ → List ℕ → Type 0
HoldLeasts next n leasts = (p : ℕ) → p < n → slice_index leasts p ≡ least_after next n p

-- the places of one cycle have one entry, where n stands for none
abbrev pub AgreeOnCycles : (ℕ → ℕ) → ℕ → List ℕ → Type 0
AgreeOnCycles next n leasts = (p : ℕ) → slice_index_or leasts (next p) n ≡ slice_index_or leasts p n

-- the places of one cycle, which had no entry, have the entry start, and the others are as they were
pub record MarksCycle (next : ℕ → ℕ) (n start : ℕ) (old new : List ℕ) : Type 0 where
  pub places : List ℕ
  pub cycle : IsCycle next places
  pub first : first_of places ≡ start
  pub once : (p : ℕ) → count_of p places ≤ 1
  pub inside : (p : ℕ) → 0 < count_of p places → p < n
  pub fresh : (p : ℕ) → 0 < count_of p places → slice_index_or old p n ≡ n
  pub on : (p : ℕ) → 0 < count_of p places → slice_index_or new p n ≡ start
  pub off : (p : ℕ) → count_of p places ≡ 0 → slice_index_or new p n ≡ slice_index_or old p n

-- the list holds the place of the least dart of each dart's cycle
pub record AreLeastPlaces (edges : List Edge) (leasts : List ℕ) : Type 0 where
  pub count : length leasts ≡ 2 * length edges
  pub each : (p : ℕ) → p < 2 * length edges → slice_index leasts p ≡ least_place edges p
