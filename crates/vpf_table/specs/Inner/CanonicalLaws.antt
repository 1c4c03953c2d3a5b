-- The canonical table is spelled so, and is read again.
use Rattle.std.specs.Prelude.{[], All}
use Rattle.std.proofs.Common.{ℕ, ◌+◌, ◌-◌, ◌^◌, ◌<◌, List, ◌∷◌, length, arith}
use Rattle.std.proofs.lemmas.List.{length-append}
use Rattle.std.proofs.lemmas.List.Elements.{All-nil, All-cons}
use Rattle.vpf_base.specs.declared.orders.Order.{Order}
use Rattle.vpf_head.specs.Canonical.{canonical_header}
use Rattle.vpf_head.specs.Head.{Col, Head}
use Rattle.vpf_varindex.specs.RowIndex.{HasSpan}
use Rattle.vpf_table.specs.Grid.{Row, Grid}
use Rattle.vpf_table.specs.Canonical.{IsSmall, row_text, rows_text, spans_from, canonical_spans}
use Rattle.vpf_head.specs.Inner.Soundness.{IsSound}

spans_small : (o : Order) (cs : List Col) (at : ℕ) (rows : List Row) → at + length (rows_text o cs rows) < 2 ^ 32 → All HasSpan (spans_from o cs at rows)
unfolding rows_text spans_from
spans_small o cs at [] h = All-nil HasSpan
spans_small o cs at (row ∷ rows) h =
    let whole = length-append (row_text o cs row) (rows_text o cs rows) in
    All-cons HasSpan (at, length (row_text o cs row)) (spans_from o cs (at + length (row_text o cs row)) rows) (omega (arith, h, whole), omega (arith, h, whole)) (spans_small o cs (at + length (row_text o cs row)) rows (omega (arith, h, whole)))

pub table_has_spans : (g : Grid) → IsSmall g → All HasSpan (canonical_spans g)
table_has_spans g e = spans_small g.head.order g.head.columns (length (canonical_header g.head)) g.rows (omega (arith, e.bytes, length-append (canonical_header g.head) (rows_text g.head.order g.head.columns g.rows)))

-- a sound header is sound in either order
abbrev pub SoundInOrder : Type 0
SoundInOrder = (h : Head) (order : Order) → IsSound h → IsSound (record h { order = order })
