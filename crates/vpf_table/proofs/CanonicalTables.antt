-- The canonical table is spelled so, and is read again.
use Rattle.std.specs.Prelude.{[], All}
use Rattle.std.proofs.Common.{◌≡◌, ℕ, ◌+◌, ◌-◌, ◌≤◌, List, ◌∷◌, ◌++◌, length, drop, Bool, true, false, cond, Some, None, Ok, refl, sym, ap, subst, ◌∙◌, arith}
use Rattle.std.proofs.lemmas.List.{drop_at, drop-drop}
use Rattle.std.proofs.lemmas.List.Elements.{All-head, All-tail}
use Rattle.vpf_base.specs.Bytes.{IsBytes}
use Rattle.vpf_base.specs.declared.orders.Order.{Order}
use Rattle.vpf_triplet.specs.declared.kinds.Kind.{Kind}
use Rattle.vpf_triplet.specs.declared.kinds.Count.{Count}
use Rattle.vpf_findings.specs.Values.{Value}
use Rattle.vpf_findings.specs.Spelling.{IsCell}
use Rattle.vpf_findings.specs.Fitting.{FitsCell}
use Rattle.vpf_findings.specs.Canonical.{spelled}
use Rattle.vpf_head.specs.Canonical.{canonical_text, canonical_header}
use Rattle.vpf_head.specs.Head.{Head, Col, varies_in}
use Rattle.vpf_head.specs.Inner.Soundness.{IsSound}
use Rattle.vpf_head.specs.Reading.{header_of}
use Rattle.vpf_head.specs.Spelling.{IsHeader}
use Rattle.vpf_varindex.specs.RowIndex.{row_index, HasSpan}
use Rattle.vpf_table.specs.Grid.{Row, Grid}
use Rattle.vpf_table.specs.Reading.{row_at, table_of}
use Rattle.vpf_table.specs.Walking.{past_of}
use Rattle.vpf_table.specs.Opening.{spans_at, start_of, row_spans, opened_of}
use Rattle.vpf_table.specs.Spelling.{IsRow, IsRows, IsTable}
use Rattle.vpf_table.specs.Canonical.{FitsRow, IsSmall, IsWritable, row_text, rows_text, spans_from, canonical_table, canonical_spans, canonical_index, in_order}
use Rattle.vpf_table.specs.Inner.Lower.{CellAndHeaderLaws}
use Rattle.vpf_table.proofs.ReadRows.{SpelledFits, rows_fit}
use Rattle.vpf_table.proofs.RowLaws.{row_again}
use Rattle.vpf_table.proofs.TableLaws.{table_takes}
use Rattle.vpf_table.specs.Inner.CanonicalLaws.{SoundInOrder}

-- ---- what is written is spelled

-- the canonical spelling of what fits is a spelling
abbrev pub CellIsSpelled : Type 0
CellIsSpelled = (o : Order) (kind : Kind) (count : Count) (v : Value) → FitsCell kind count v → IsCell o kind count v (spelled o kind count v)

-- and so is that of a sound header
abbrev pub HeaderIsSpelled : Type 0
HeaderIsSpelled = (h : Head) → IsSound h → length (canonical_text h) ≤ 65536 → IsHeader h (canonical_header h)

row_spelled : CellIsSpelled → (o : Order) (cs : List Col) (row : Row) → FitsRow cs row → IsRow o cs row (row_text o cs row)
unfolding row_text
row_spelled cell o [] [] h = refl
row_spelled cell o [] (v ∷ vs) h = absurd h
row_spelled cell o (c ∷ cs) [] h = absurd h
row_spelled cell o (c ∷ cs) (v ∷ vs) h = (spelled o c.kind c.count v, row_text o cs vs, refl, cell o c.kind c.count v h.0, row_spelled cell o cs vs h.1)

rows_spelled : CellIsSpelled → (o : Order) (cs : List Col) (rows : List Row) → All (FitsRow cs) rows → IsRows o cs rows (rows_text o cs rows)
unfolding rows_text
rows_spelled cell o cs [] h = refl
rows_spelled cell o cs (row ∷ rows) h = (row_text o cs row, rows_text o cs rows, refl, row_spelled cell o cs row (All-head (FitsRow cs) row rows h), rows_spelled cell o cs rows (All-tail (FitsRow cs) row rows h))

pub table_spelled : CellIsSpelled → HeaderIsSpelled → (g : Grid) → IsWritable g → IsSmall g → IsTable g (canonical_table g)
table_spelled cell header g w e =
    record {
      front = canonical_header g.head;
      rest = rows_text g.head.order g.head.columns g.rows;
      parts = refl;
      header = header g.head w.sound e.text;
      rows = rows_spelled cell g.head.order g.head.columns g.rows w.fits;
      most = e.rows;
    }

-- ---- what is read can be written

pub read_writable : CellAndHeaderLaws → SpelledFits → SoundInOrder → (bytes : List ℕ) (g : Grid) (order : Order) → IsBytes bytes → table_of bytes ≡ Ok g → IsWritable (in_order order g)
read_writable laws fits in_each bytes g order are e =
    let t = table_takes laws bytes g are e in
    let head = laws.header_is_read bytes g.head t.front t.rest (record { parts = t.parts; spelled = t.header }) in
    let sound = laws.header_is_sound bytes g.head (length t.front) head in
    record { sound = in_each g.head order sound; fits = rows_fit fits g.head.order g.head.columns g.rows t.rest sound.counts t.rows }

-- ---- the rows lie where the index tells

row_at_written : CellAndHeaderLaws → CellIsSpelled → (o : Order) (cs : List Col) (row : Row) (bytes : List ℕ) (at : ℕ) (rest : List ℕ) → FitsRow cs row → drop at bytes ≡ row_text o cs row ++ rest → past_of (row_at o cs bytes at) ≡ at + length (row_text o cs row)
row_at_written laws cell o cs row bytes at rest fits e = ap past_of (row_again laws o cs row bytes at (row_text o cs row) rest e (row_spelled cell o cs row fits))

spans_written : CellAndHeaderLaws → CellIsSpelled → (o : Order) (cs : List Col) (rows : List Row) (bytes : List ℕ) (at : ℕ) → All (FitsRow cs) rows → drop at bytes ≡ rows_text o cs rows → spans_at (length rows) o cs bytes at ≡ spans_from o cs at rows
unfolding spans_at spans_from rows_text
spans_written laws cell o cs [] bytes at h e = refl
spans_written laws cell o cs (row ∷ rows) bytes at h e =
    let text = row_text o cs row in
    let past = row_at_written laws cell o cs row bytes at (rows_text o cs rows) (All-head (FitsRow cs) row rows h) e in
    let len : at + length text - at ≡ length text = omega arith in
    let left : drop (at + length text) bytes ≡ rows_text o cs rows = sym (drop-drop (length text) at bytes) ∙ ap (drop (length text)) e ∙ drop_at text (rows_text o cs rows) (length text) refl in
    rw (past, len, spans_written laws cell o cs rows bytes (at + length text) (All-tail (FitsRow cs) row rows h) left) refl

-- a header's canonical spelling is read again, whatever follows
abbrev pub HeaderIsRead : Type 0
HeaderIsRead = (h : Head) (rest : List ℕ) → IsSound h → length (canonical_text h) ≤ 65536 → header_of (canonical_header h ++ rest) ≡ Ok (h, length (canonical_header h))

pub table_spans : CellAndHeaderLaws → CellIsSpelled → HeaderIsRead → (g : Grid) → IsWritable g → IsSmall g → row_spans (canonical_table g) g ≡ canonical_spans g
table_spans laws cell header g w e =
    let o = g.head.order in
    let cs = g.head.columns in
    let front = canonical_header g.head in
    let start = ap start_of (header g.head (rows_text o cs g.rows) w.sound e.text) in
    ap (spans_at (length g.rows) o cs (canonical_table g)) start ∙ spans_written laws cell o cs g.rows (canonical_table g) (length front) w.fits (drop_at front (rows_text o cs g.rows) (length front) refl)

-- a table's own index is taken as its own
abbrev pub OwnIsTaken : Type 0
OwnIsTaken = (bytes : List ℕ) (g : Grid) (second : ℕ) → table_of bytes ≡ Ok g → All HasSpan (row_spans bytes g) → opened_of bytes (Some (row_index g.head.order second (row_spans bytes g))) ≡ Ok g

opened_by : (b : Bool) (bytes index : List ℕ) (g : Grid) → table_of bytes ≡ Ok g → opened_of bytes (Some index) ≡ Ok g → opened_of bytes (cond b (Some index) None) ≡ Ok g
opened_by true bytes index g e f = f
opened_by false bytes index g e f = e

pub table_opened : OwnIsTaken → (g : Grid) → table_of (canonical_table g) ≡ Ok g → row_spans (canonical_table g) g ≡ canonical_spans g → All HasSpan (canonical_spans g) → opened_of (canonical_table g) (canonical_index g) ≡ Ok g
table_opened own g read spans small =
    let text = length (canonical_text g.head) in
    let o = g.head.order in
    let bytes = canonical_table g in
    let taken = own bytes g text read (subst (λ (x : List (ℕ × ℕ)). All HasSpan x) (sym spans) small) in
    let index : opened_of bytes (Some (row_index o text (canonical_spans g))) ≡ Ok g = subst (λ (x : List (ℕ × ℕ)). opened_of bytes (Some (row_index o text x)) ≡ Ok g) spans taken in
    opened_by (varies_in g.head.columns) bytes (row_index o text (canonical_spans g)) g read index
