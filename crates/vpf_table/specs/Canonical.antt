-- The canonical bytes of a table (MIL-STD-2407, 5.4, VPF table encoding) and of its variable-length index.
use Rattle.std.specs.Prelude.{ℕ, ◌+◌, ◌<◌, ◌≤◌, ◌^◌, List, [], ◌∷◌, ◌++◌, length, Option, Some, None, if◌then◌else◌, All}
use Rattle.vpf_base.specs.Limits.{longest_text, most_rows}
use Rattle.vpf_base.specs.declared.orders.Order.{Order}
use Rattle.vpf_findings.specs.Canonical.{spelled}
use Rattle.vpf_findings.specs.Fitting.{FitsCell}
use Rattle.vpf_head.specs.Canonical.{canonical_text, canonical_header}
use Rattle.vpf_head.specs.Head.{Col, varies_in}
use Rattle.vpf_head.specs.Inner.Soundness.{IsSound}
use Rattle.vpf_varindex.specs.RowIndex.{row_index}
use Rattle.vpf_table.specs.Grid.{Row, Grid}

-- a cell for each column, which fits it
abbrev pub FitsRow : List Col → Row → Type 0
FitsRow [] [] = Unit {0}
FitsRow [] (v ∷ vs) = ⊥
FitsRow (c ∷ cs) [] = ⊥
FitsRow (c ∷ cs) (v ∷ vs) = FitsCell c.kind c.count v × FitsRow cs vs

-- a table that can be written where it passes no limit: its header is sound and its rows fit the columns
pub record IsWritable (g : Grid) : Type 0 where
  pub sound : IsSound g.head
  pub fits : All (FitsRow g.head.columns) g.rows

-- the cells of a row, each as its column spells it
unfoldable pub row_text : Order → List Col → Row → List ℕ
row_text o [] row = []
row_text o (c ∷ cs) [] = []
row_text o (c ∷ cs) (v ∷ vs) = spelled o c.kind c.count v ++ row_text o cs vs

-- rows, one after another
unfoldable pub rows_text : Order → List Col → List Row → List ℕ
rows_text o cs [] = []
rows_text o cs (row ∷ rows) = row_text o cs row ++ rows_text o cs rows

-- where each row begins and how many bytes it has, the first of which begins at `at`
unfoldable pub spans_from : Order → List Col → ℕ → List Row → List (ℕ × ℕ)
spans_from o cs at [] = []
spans_from o cs at (row ∷ rows) = (at, length (row_text o cs row)) ∷ spans_from o cs (at + length (row_text o cs row)) rows

-- the canonical header, and after it the rows
abbrev pub canonical_table : Grid → List ℕ
canonical_table g = canonical_header g.head ++ rows_text g.head.order g.head.columns g.rows

-- where each row lies in the canonical table, in bytes from the start of the file, and how many bytes it has
abbrev pub canonical_spans : Grid → List (ℕ × ℕ)
canonical_spans g = spans_from g.head.order g.head.columns (length (canonical_header g.head)) g.rows

-- The index of the canonical table, which it has exactly where its rows may vary. The second number is the length of the header
-- text.
abbrev pub canonical_index : Grid → Option (List ℕ)
canonical_index g =
    if varies_in g.head.columns then Some (row_index g.head.order (length (canonical_text g.head)) (canonical_spans g))
    else None

-- the same table, with its numbers in this order
abbrev pub in_order : Order → Grid → Grid
in_order o g = record { head = record g.head { order = o }; rows = g.rows }

-- the header text and the rows are few enough to be read, and the bytes for an index to tell where each row lies
pub record IsSmall (g : Grid) : Type 0 where
  pub text : length (canonical_text g.head) ≤ longest_text
  pub rows : length g.rows ≤ most_rows
  pub bytes : length (canonical_table g) < 2 ^ 32
