-- What is written of a table so far.
use Rattle.std.specs.Prelude.{ℕ, List, [], ◌∷◌, ◌++◌, Bool, length, if◌then◌else◌}
use Rattle.vpf_base.specs.declared.orders.Order.{Order}
use Rattle.vpf_head.specs.Canonical.{canonical_header}
use Rattle.vpf_head.specs.Head.{Head, Col, varies_in}
use Rattle.vpf_write.specs.declared.draft.Draft.{Draft}
use Rattle.vpf_table.specs.Grid.{Row}
use Rattle.vpf_table.specs.Canonical.{row_text}

-- the bytes, where the rows lie in them, and whether this is kept: it is where rows vary
pub record Progress : Type 0 where
  pub table : List ℕ
  pub spans : List (ℕ × ℕ)
  pub varies : Bool

-- what a draft has
abbrev pub progress : Draft → Progress
progress d = record { table = d.table.items; spans = d.spans.items; varies = d.varies }

-- the header alone
abbrev pub begun : Head → Progress
begun h = record { table = canonical_header h; spans = []; varies = varies_in h.columns }

-- with one row more
abbrev pub with_row : Order → List Col → Progress → Row → Progress
with_row o cs p row = record {
  table = p.table ++ row_text o cs row;
  spans = if p.varies then p.spans ++ (length p.table, length (row_text o cs row)) ∷ [] else p.spans;
  varies = p.varies;
}

-- with these rows more
unfoldable pub with_rows : Order → List Col → Progress → List Row → Progress
with_rows o cs p [] = p
with_rows o cs p (row ∷ rows) = with_rows o cs (with_row o cs p row) rows

-- with the bytes of rows more, whose places are not kept
abbrev pub with_bytes : Progress → List ℕ → Progress
with_bytes p bytes = record { table = p.table ++ bytes; spans = p.spans; varies = p.varies }
