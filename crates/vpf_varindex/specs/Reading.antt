-- Reading a variable-length index from its first byte to its last, up to the first fault.
use Rattle.std.specs.Prelude.{ℕ, zero, suc, ◌+◌, List, [], ◌∷◌, length, drop, Result, Ok, Err, nat_le, nat_lt, if◌then◌else◌}
use Rattle.std.specs.Int.{w32}
use Rattle.vpf_base.specs.Results.{◌>>=◌}
use Rattle.vpf_base.specs.declared.orders.Order.{Order}
use Rattle.vpf_triplet.specs.declared.places.Place.{Place}
use Rattle.vpf_triplet.specs.declared.places.Code.TheVariants as codes
use Rattle.vpf_base.specs.Numbers.{number_of}
use Rattle.vpf_triplet.specs.Places.{index_fault}

-- the offset and the length that the entry at `at` has
abbrev pub index_entry : Order → List ℕ → ℕ → ℕ × ℕ
index_entry o bytes at = (number_of o w32 (drop at bytes), number_of o w32 (drop (at + 4) bytes))

-- so many entries from `at` on, and nothing after them
unfoldable pub entries_at : ℕ → Order → List ℕ → ℕ → Result (List (ℕ × ℕ)) Place
entries_at zero o bytes at = if nat_le (length bytes) at then Ok [] else Err (index_fault at codes.IndexExtra)
entries_at (suc n) o bytes at = if nat_lt (length bytes) (at + 8) then Err (index_fault at codes.IndexCut) else entries_at n o bytes (at + 8) >>= λ others. Ok (index_entry o bytes at ∷ others)

-- the entries of an index, or its first fault
unfoldable pub index_at : Order → List ℕ → Result (List (ℕ × ℕ)) Place
index_at o bytes = if nat_lt (length bytes) 8 then Err (index_fault 0 codes.IndexCut) else entries_at (number_of o w32 bytes) o bytes 8
