-- Reading a table with its index, up to the first fault: of the table, and then of the index.
use Rattle.std.specs.Prelude.{ℕ, zero, suc, ◌+◌, ◌-◌, ◌*◌, List, [], ◌∷◌, length, Option, Some, None, Result, Ok, Err, ◌==◌, ◌&&◌, if◌then◌else◌}
use Rattle.vpf_base.specs.Results.{◌>>=◌}
use Rattle.vpf_base.specs.declared.orders.Order.{Order}
use Rattle.vpf_triplet.specs.declared.places.Place.{Place}
use Rattle.vpf_triplet.specs.declared.places.Code.TheVariants as codes
use Rattle.vpf_triplet.specs.Places.{index_fault}
use Rattle.vpf_head.specs.Head.{Head, Col}
use Rattle.vpf_head.specs.Reading.{header_of}
use Rattle.vpf_varindex.specs.Reading.{index_at}
use Rattle.vpf_table.specs.Grid.{Grid}
use Rattle.vpf_table.specs.Reading.{row_at, table_of}
use Rattle.vpf_table.specs.Walking.{past_of}

-- the offset and the length of each of so many rows, the first at `at`
unfoldable pub spans_at : ℕ → Order → List Col → List ℕ → ℕ → List (ℕ × ℕ)
spans_at zero o cs bytes at = []
spans_at (suc n) o cs bytes at = (at, past_of (row_at o cs bytes at) - at) ∷ spans_at n o cs bytes (past_of (row_at o cs bytes at))

-- where the first row begins
abbrev pub start_of : Result (Head × ℕ) Place → ℕ
start_of (Ok h) = h.1
start_of (Err p) = 0

-- the offset and the length of each row of a table in its file
abbrev pub row_spans : List ℕ → Grid → List (ℕ × ℕ)
row_spans bytes g = spans_at (length g.rows) g.head.order g.head.columns bytes (start_of (header_of bytes))

-- the first entry that isn't the offset and the length of its row, counted from i
unfoldable pub first_other : ℕ → List (ℕ × ℕ) → List (ℕ × ℕ) → Option ℕ
first_other i [] spans = None
first_other i (e ∷ es) [] = None
first_other i (e ∷ es) (s ∷ ss) = if e.0 == s.0 && e.1 == s.1 then first_other (i + 1) es ss else Some i

-- the fault of this entry, counted from 0, where there is one
abbrev pub unless_other : {X : Type 0} → X → Option ℕ → Result X Place
unless_other x None = Ok x
unless_other x (Some i) = Err (index_fault (8 + 8 * i) codes.IndexRow)

-- the entries must be as many as the rows, and each its row's offset and length
abbrev pub owned : {X : Type 0} → X → List (ℕ × ℕ) → List (ℕ × ℕ) → Result X Place
owned x entries spans = if length entries == length spans then unless_other x (first_other 0 entries spans) else Err (index_fault 0 codes.IndexCount)

-- the entries of the index of rows that lie there, where one is given, or its first fault
abbrev pub own_entries : Order → List (ℕ × ℕ) → Option (List ℕ) → Result (Option (List (ℕ × ℕ))) Place
own_entries o spans None = Ok None
own_entries o spans (Some index) = index_at o index >>= λ entries. owned (Some entries) entries spans

-- The table of a file and, where one is given, of its index, or the first fault. The table's comes before any of the index.
abbrev pub opened_of : List ℕ → Option (List ℕ) → Result Grid Place
opened_of bytes None = table_of bytes
opened_of bytes (Some index) = table_of bytes >>= λ g. index_at g.head.order index >>= λ entries. owned g entries (row_spans bytes g)
