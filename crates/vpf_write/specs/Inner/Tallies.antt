-- What contracts see of a table that is written row by row.
use Rattle.std.specs.Prelude.{◌≡◌, ℕ, ◌-◌, ◌^◌, List, min, Bool, length, None, false}
use Rattle.vpf_head.specs.Head.{Head}
use Rattle.vpf_table.specs.Canonical.{rows_text}
use Rattle.vpf_table.specs.Grid.{Row, Grid}
use Rattle.vpf_write.specs.Inner.Drafts.{Progress, begun, with_rows}
use Rattle.vpf_write.specs.Writing.{first_limit}

-- the header, how many rows there are and how many bytes they have, each up to the last number of 64 bits, what is kept of them, and whether memory ran out
pub record Tally : Type 0 where
  pub head : Head
  pub rows : ℕ
  pub size : ℕ
  pub kept : Progress
  pub failed : Bool

-- the table of these rows
abbrev pub grid_with : Tally → List Row → Grid
grid_with t rows = record { head = t.head; rows = rows }

-- these rows are put, and kept where they pass no limit and memory didn't run out
pub record Holds (t : Tally) (rows : List Row) : Type 0 where
  pub count : t.rows ≡ min (length rows) (2 ^ 64 - 1)
  pub size : t.size ≡ min (length (rows_text t.head.order t.head.columns rows)) (2 ^ 64 - 1)
  pub kept : t.failed ≡ false → first_limit (grid_with t rows) ≡ None → t.kept ≡ with_rows t.head.order t.head.columns (begun t.head) rows
