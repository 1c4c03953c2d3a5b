-- The first fault of bytes that are no variable-length index, apart from reading (MIL-STD-2407, 5.4, variable-length index
-- file).
use Rattle.std.specs.Prelude.{ℕ, ◌+◌, ◌*◌, ◌<◌, ◌≤◌, List, length}
use Rattle.std.specs.Int.{w32}
use Rattle.vpf_base.specs.declared.orders.Order.{Order}
use Rattle.vpf_triplet.specs.declared.places.Place.{Place}
use Rattle.vpf_triplet.specs.declared.places.Code.TheVariants as codes
use Rattle.vpf_base.specs.Numbers.{number_of}
use Rattle.vpf_triplet.specs.Places.{index_fault}

-- where entry k begins, counted from 0, behind the two numbers at the front
abbrev pub index_entry_start : ℕ → ℕ
index_entry_start k = 8 + k * 8

-- how many entries the first number says that there are
abbrev pub entry_count : Order → List ℕ → ℕ
entry_count o bytes = number_of o w32 bytes

-- the first fault of the bytes
pub data FirstIndexFault (o : Order) (bytes : List ℕ) : Place → Type 0 where
  -- the numbers at the front aren't whole
  front_cut : length bytes < index_entry_start 0 → FirstIndexFault o bytes (index_fault 0 codes.IndexCut)
  -- entry k isn't whole, and those before it are
  entry_cut : (k : ℕ) → k < entry_count o bytes → index_entry_start k ≤ length bytes → length bytes < index_entry_start (k + 1) → FirstIndexFault o bytes (index_fault (index_entry_start k) codes.IndexCut)
  -- all entries are whole, and bytes follow them
  extra : index_entry_start (entry_count o bytes) < length bytes → FirstIndexFault o bytes (index_fault (index_entry_start (entry_count o bytes)) codes.IndexExtra)
