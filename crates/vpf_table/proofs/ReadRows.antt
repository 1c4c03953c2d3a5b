-- Rows that are read fit their columns, and their canonical spelling is no longer than what was read.
use Rattle.std.specs.Prelude.{[], All, IsOk, IsTrue}
use Rattle.std.proofs.Common.{ℕ, ◌-◌, ◌≤◌, List, ◌∷◌, length, drop, ap, arith}
use Rattle.std.proofs.lemmas.List.{length-append, length-drop}
use Rattle.std.proofs.lemmas.List.Elements.{All-head, All-tail, All-nil, All-cons}
use Rattle.vpf_base.specs.Limits.{most_rows}
use Rattle.vpf_base.specs.Bytes.{IsBytes}
use Rattle.vpf_base.specs.declared.orders.Order.{Order}
use Rattle.vpf_triplet.specs.declared.kinds.Kind.{Kind}
use Rattle.vpf_triplet.specs.declared.kinds.Count.{Count}
use Rattle.vpf_triplet.specs.Kinds.{allows}
use Rattle.vpf_findings.specs.Values.{Value}
use Rattle.vpf_findings.specs.Spelling.{IsCell}
use Rattle.vpf_findings.specs.Fitting.{FitsCell}
use Rattle.vpf_findings.specs.Canonical.{spelled}
use Rattle.vpf_head.specs.Head.{Col}
use Rattle.vpf_head.specs.Inner.Soundness.{IsCounted}
use Rattle.vpf_table.specs.Grid.{Row}
use Rattle.vpf_table.specs.Reading.{rows_at}
use Rattle.vpf_table.specs.Walking.{rows_of}
use Rattle.vpf_table.specs.Spelling.{IsRow, IsRows}
use Rattle.vpf_table.specs.Canonical.{FitsRow, row_text, rows_text}
use Rattle.vpf_table.specs.Inner.Lower.{CellAndHeaderLaws}
use Rattle.vpf_table.proofs.RowLaws.{rows_take}
use Rattle.vpf_table.proofs.FixedWidth.{rows_read}
use Rattle.vpf_table.specs.Inner.OrderLaws.{EitherOrder}

-- what is spelled fits
abbrev pub SpelledFits : Type 0
SpelledFits = (o : Order) (kind : Kind) (count : Count) (v : Value) (bytes : List ℕ) → IsTrue (allows kind count) → IsCell o kind count v bytes → FitsCell kind count v

-- no spelling is shorter than the canonical one
abbrev pub Shortest : Type 0
Shortest = (o : Order) (kind : Kind) (count : Count) (v : Value) (bytes : List ℕ) → IsCell o kind count v bytes → length (spelled o kind count v) ≤ length bytes

pub row_fits : SpelledFits → (o : Order) (cs : List Col) (row : Row) (x : List ℕ) → All IsCounted cs → IsRow o cs row x → FitsRow cs row
row_fits fits o [] [] x s h = tt
row_fits fits o [] (v ∷ vs) x s h = absurd h
row_fits fits o (c ∷ cs) [] x s h = absurd h
row_fits fits o (c ∷ cs) (v ∷ vs) x s h =
    (fits o c.kind c.count v h.0 (All-head IsCounted c cs s).allowed h.3, row_fits fits o cs vs h.1 (All-tail IsCounted c cs s) h.4)

pub rows_fit : SpelledFits → (o : Order) (cs : List Col) (rows : List Row) (x : List ℕ) → All IsCounted cs → IsRows o cs rows x → All (FitsRow cs) rows
rows_fit fits o cs [] x s h = All-nil (FitsRow cs)
rows_fit fits o cs (row ∷ rows) x s h = All-cons (FitsRow cs) row rows (row_fits fits o cs row h.0 s h.3) (rows_fit fits o cs rows h.1 s h.4)

pub row_short : Shortest → EitherOrder → (o p : Order) (cs : List Col) (row : Row) (x : List ℕ) → IsRow o cs row x → length (row_text p cs row) ≤ length x
unfolding row_text
row_short short either o p [] [] x h = omega arith
row_short short either o p [] (v ∷ vs) x h = absurd h
row_short short either o p (c ∷ cs) [] x h = absurd h
row_short short either o p (c ∷ cs) (v ∷ vs) x h =
    omega (arith, length-append (spelled p c.kind c.count v) (row_text p cs vs), either o p c.kind c.count v, short o c.kind c.count v h.0 h.3, row_short short either o p cs vs h.1 h.4, ap length h.2, length-append h.0 h.1)

pub rows_short : Shortest → EitherOrder → (o p : Order) (cs : List Col) (rows : List Row) (x : List ℕ) → IsRows o cs rows x → length (rows_text p cs rows) ≤ length x
unfolding rows_text
rows_short short either o p cs [] x h = omega arith
rows_short short either o p cs (row ∷ rows) x h =
    omega (arith, length-append (row_text p cs row) (rows_text p cs rows), row_short short either o p cs row h.0 h.3, rows_short short either o p cs rows h.1 h.4, ap length h.2, length-append h.0 h.1)

pub read_rows_fit : CellAndHeaderLaws → SpelledFits → (o : Order) (cs : List Col) (bytes : List ℕ) (at : ℕ) → IsBytes bytes → at ≤ length bytes → All IsCounted cs → IsOk (rows_at most_rows o cs bytes at) → All (FitsRow cs) (rows_of (rows_at most_rows o cs bytes at))
read_rows_fit laws fits o cs bytes at are inside s h =
    rows_fit fits o cs _ (drop at bytes) s (rows_take laws most_rows o cs bytes at (rows_of (rows_at most_rows o cs bytes at)) are inside (rows_read (rows_at most_rows o cs bytes at) h)).1

pub read_rows_short : CellAndHeaderLaws → Shortest → EitherOrder → (o p : Order) (cs : List Col) (bytes : List ℕ) (at : ℕ) → IsBytes bytes → at ≤ length bytes → IsOk (rows_at most_rows o cs bytes at) → length (rows_text p cs (rows_of (rows_at most_rows o cs bytes at))) ≤ length bytes - at
read_rows_short laws short either o p cs bytes at are inside h =
    omega (arith, rows_short short either o p cs _ (drop at bytes) (rows_take laws most_rows o cs bytes at (rows_of (rows_at most_rows o cs bytes at)) are inside (rows_read (rows_at most_rows o cs bytes at) h)).1, length-drop at bytes)
