-- Reading a table from its first byte to its last, up to the first fault. Offsets are those of the file.
use Rattle.std.specs.Prelude.{ℕ, zero, suc, ◌+◌, List, [], ◌∷◌, length, drop, Result, Ok, Err, nat_le, if◌then◌else◌}
use Rattle.vpf_base.specs.Limits.{most_rows}
use Rattle.vpf_base.specs.Results.{◌>>=◌}
use Rattle.vpf_base.specs.declared.orders.Order.{Order}
use Rattle.vpf_triplet.specs.declared.places.Place.{Place}
use Rattle.vpf_triplet.specs.declared.places.Code.{Code}
use Rattle.vpf_triplet.specs.declared.places.Code.TheVariants as codes
use Rattle.vpf_triplet.specs.Places.{fault}
use Rattle.vpf_findings.specs.Values.{Value}
use Rattle.vpf_findings.specs.Reading.{cell_from}
use Rattle.vpf_head.specs.Head.{Col}
use Rattle.vpf_head.specs.Reading.{header_of}
use Rattle.vpf_table.specs.Grid.{Row, Grid}

-- what begins at `at`, with its end and its fault at their offsets in the file
abbrev pub lifted : {X : Type 0} → ℕ → Result (X × ℕ) Code → Result (X × ℕ) Place
lifted at (Ok x) = Ok (x.0, at + x.1)
lifted at (Err code) = Err (fault at code)

-- the cell of a column that begins at `at`, and the offset past it
abbrev pub cell_in : Order → Col → List ℕ → ℕ → Result (Value × ℕ) Place
cell_in o c bytes at = lifted at (cell_from o c.kind c.count (drop at bytes))

-- the row of these columns that begins at `at`, and the offset past it
unfoldable pub row_at : Order → List Col → List ℕ → ℕ → Result (Row × ℕ) Place
row_at o [] bytes at = Ok ([], at)
row_at o (c ∷ cs) bytes at = do
  first ← cell_in o c bytes at
  others ← row_at o cs bytes first.1
  Ok (first.0 ∷ others.0, others.1)

-- The rows from `at` to the end, where so many may be begun. A row is begun where bytes remain.
unfoldable pub rows_at : ℕ → Order → List Col → List ℕ → ℕ → Result (List Row) Place
rows_at zero o cols bytes at = if nat_le (length bytes) at then Ok [] else Err (fault at (codes.LimitRows (most_rows + 1)))
rows_at (suc n) o cols bytes at = if nat_le (length bytes) at then Ok [] else row_at o cols bytes at >>= λ r. rows_at n o cols bytes r.1 >>= λ rs. Ok (r.0 ∷ rs)

-- the table of a file, or its first fault
unfoldable pub table_of : List ℕ → Result Grid Place
table_of bytes = do
  h ← header_of bytes
  rs ← rows_at most_rows h.0.order h.0.columns bytes h.1
  Ok (record { head = h.0; rows = rs })
