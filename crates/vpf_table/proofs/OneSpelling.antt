-- Rows of one width: their bytes are the canonical ones.
use Rattle.std.specs.Prelude.{[], IsOk}
use Rattle.std.proofs.Common.{◌≡◌, ◌≢◌, ℕ, ◌≤◌, List, ◌∷◌, length, drop, Some, None, refl, sym, ap, ◌∙◌}
use Rattle.vpf_base.specs.Limits.{most_rows}
use Rattle.vpf_base.specs.Bytes.{IsBytes}
use Rattle.vpf_base.specs.declared.orders.Order.{Order}
use Rattle.vpf_triplet.specs.declared.kinds.Kind.{Kind}
use Rattle.vpf_triplet.specs.declared.kinds.Kind.TheVariants as kinds
use Rattle.vpf_triplet.specs.declared.kinds.Count.{Count}
use Rattle.vpf_findings.specs.Values.{Value}
use Rattle.vpf_findings.specs.Spelling.{IsCell}
use Rattle.vpf_findings.specs.Canonical.{spelled}
use Rattle.vpf_findings.specs.Widths.{cell_width}
use Rattle.vpf_head.specs.Head.{Col}
use Rattle.vpf_table.specs.Grid.{Row}
use Rattle.vpf_table.specs.Reading.{rows_at}
use Rattle.vpf_table.specs.Walking.{rows_of}
use Rattle.vpf_table.specs.Inner.Widths.{width_of}
use Rattle.vpf_table.specs.Spelling.{IsRow, IsRows}
use Rattle.vpf_table.specs.Canonical.{row_text, rows_text}
use Rattle.vpf_table.specs.Inner.Lower.{CellAndHeaderLaws}
use Rattle.vpf_table.proofs.FixedWidth.{rows_read}
use Rattle.vpf_table.specs.Inner.WidthLaws.{added}
use Rattle.vpf_table.proofs.RowLaws.{rows_take}

-- ---- what is read is canonical

-- but for triplet ids there is one spelling
abbrev pub Alone : Type 0
Alone = (o : Order) (kind : Kind) (count : Count) (v : Value) (bytes : List ℕ) → kind ≢ kinds.K → IsCell o kind count v bytes → bytes ≡ spelled o kind count v

no_triplet : (kind : Kind) (count : Count) (w : ℕ) → cell_width kind count ≡ Some w → kind ≢ kinds.K
no_triplet kind count w e h = let n : None ≡ Some w = sym (ap (λ (k : Kind). cell_width k count) h) ∙ e in cc

row_alone : Alone → (o : Order) (cs : List Col) (row : Row) (b : List ℕ) (w : ℕ) → width_of cs ≡ Some w → IsRow o cs row b → b ≡ row_text o cs row
unfolding row_text
row_alone alone o [] [] b w e h = h
row_alone alone o [] (v ∷ vs) b w e h = absurd h
row_alone alone o (c ∷ cs) [] b w e h = absurd h
row_alone alone o (c ∷ cs) (v ∷ vs) b w e h =
    let a = added (cell_width c.kind c.count) (width_of cs) w e in
    let cell = alone o c.kind c.count v h.0 (no_triplet c.kind c.count a.0 a.2) h.3 in
    let others = row_alone alone o cs vs h.1 a.1 a.3 h.4 in
    rw (h.2, cell, others) refl

pub rows_alone : Alone → (o : Order) (cs : List Col) (rows : List Row) (b : List ℕ) (w : ℕ) → width_of cs ≡ Some w → IsRows o cs rows b → b ≡ rows_text o cs rows
unfolding rows_text
rows_alone alone o cs [] b w e h = h
rows_alone alone o cs (row ∷ rows) b w e h =
    let first = row_alone alone o cs row h.0 w e h.3 in
    let others = rows_alone alone o cs rows h.1 w e h.4 in
    rw (h.2, first, others) refl

pub read_is_canonical : CellAndHeaderLaws → Alone → (o : Order) (cs : List Col) (bytes : List ℕ) (at w : ℕ) → IsBytes bytes → at ≤ length bytes → width_of cs ≡ Some w → IsOk (rows_at most_rows o cs bytes at) → drop at bytes ≡ rows_text o cs (rows_of (rows_at most_rows o cs bytes at))
read_is_canonical laws alone o cs bytes at w are inside e h =
    rows_alone alone o cs _ (drop at bytes) w e (rows_take laws most_rows o cs bytes at (rows_of (rows_at most_rows o cs bytes at)) are inside (rows_read (rows_at most_rows o cs bytes at) h)).1
