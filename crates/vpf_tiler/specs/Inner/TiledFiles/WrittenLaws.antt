-- The files of a table that is written: they are opened as that table, within the limits of a file.
use Rattle.std.proofs.Common.{[], ◌≡◌, ℕ, ◌≤◌, Bool, true, false, List, length, Some, None, refl, ltb, ◌+◌, ◌*◌, ◌∷◌, ◌++◌, arith, inl, inr}
use Rattle.std.specs.Prelude.{◌&&◌, All}
use Rattle.std.proofs.lemmas.Bool.{ltb-false, cases_Bool}
use Rattle.vpf_base.specs.Limits.{longest_text, most_bytes, most_rows}
use Rattle.vpf_head.specs.Canonical.{canonical_text, canonical_header}
use Rattle.vpf_head.specs.Head.{varies_in, Col, Head}
use Rattle.vpf_table.specs.Grid.{Grid, Row}
use Rattle.vpf_table.specs.Canonical.{canonical_index, canonical_table, FitsRow, IsWritable, canonical_spans, row_text, rows_text, spans_from}
use Rattle.vpf_table.specs.Spans.{IsOpened, AreSpans, IsIndexed}
use Rattle.vpf_write.specs.Writing.{first_limit, index_size, limit_by}
use Rattle.std.specs.Int.{w32}
use Rattle.std.proofs.lemmas.List.{length-append}
use Rattle.std.proofs.lemmas.List.Elements.{All-head, All-tail}
use Rattle.vpf_base.specs.declared.orders.Order.{Order}
use Rattle.vpf_triplet.specs.declared.kinds.Kind.{Kind}
use Rattle.vpf_triplet.specs.declared.kinds.Count.{Count}
use Rattle.vpf_base.specs.Numbers.{number}
use Rattle.vpf_base.proofs.NumberLemmas.{length-number}
use Rattle.vpf_value.specs.Values.{Value}
use Rattle.vpf_value.specs.Spelling.{IsCell}
use Rattle.vpf_value.specs.Inner.Fitting.{FitsCell}
use Rattle.vpf_value.specs.Canonical.{spelled}
use Rattle.vpf_head.specs.Inner.Soundness.{IsSound}
use Rattle.vpf_head.specs.Spelling.{IsHeader}
use Rattle.vpf_varindex.specs.RowIndex.{entries_text, row_index}
use Rattle.vpf_table.specs.Spelling.{IsRow, IsTable}
use Rattle.vpf_table.specs.Inner.CanonicalLaws.{table_has_spans}
use Rattle.vpf_write.specs.Inner.WritingLaws.{small_table}
use Rattle.vpf_base.proofs.Options.{none_past}

-- where no limit is passed the table is no larger than a file may be, nor is its index where it has one
pub sizes_fit : (text rows size : ℕ) (varies : Bool) → limit_by text rows size varies ≡ None
    → (size ≤ most_bytes) × ((varies && ltb most_bytes (index_size rows)) ≡ false)
unfolding limit_by
sizes_fit text rows size varies e =
    let a = none_past (ltb longest_text text) _ _ e in
    let b = none_past (ltb most_rows rows) _ _ a.1 in
    let c = none_past (ltb most_bytes size) _ _ b.1 in
    let d = none_past (varies && ltb most_bytes (index_size rows)) _ _ c.1 in
    (ltb-false _ _ c.0, d.0)

pub table_fits : (g : Grid) → first_limit g ≡ None → length (canonical_table g) ≤ most_bytes
table_fits g none = (sizes_fit (length (canonical_text g.head)) (length g.rows) (length (canonical_table g)) (varies_in g.head.columns) none).0

-- a table whose rows have one length has no index; one whose rows vary is opened with its own
pub data OpensWritten (g : Grid) : Type 0 where
  Plain : varies_in g.head.columns ≡ false → canonical_index g ≡ None → IsOpened g (canonical_table g) None → OpensWritten g
  Indexed : (index : List ℕ) → varies_in g.head.columns ≡ true → canonical_index g ≡ Some index → IsOpened g (canonical_table g) (Some index)
      → length index ≤ most_bytes → OpensWritten g

-- the canonical spelling of what fits a cell is a spelling
abbrev pub CellIsSpelled : Type 0
CellIsSpelled = (o : Order) (kind : Kind) (count : Count) (v : Value) → FitsCell kind count v → IsCell o kind count v (spelled o kind count v)

-- so is that of a table that passes no limit
abbrev pub TableIsSpelled : Type 0
TableIsSpelled = (g : Grid) → IsWritable g → first_limit g ≡ None → IsTable g (canonical_table g)

-- and that of a sound header
abbrev pub HeaderIsSpelled : Type 0
HeaderIsSpelled = (h : Head) → IsSound h → length (canonical_text h) ≤ 65536 → IsHeader h (canonical_header h)

row_spelled : CellIsSpelled → (o : Order) (cs : List Col) (row : Row) → FitsRow cs row → IsRow o cs row (row_text o cs row)
unfolding row_text
row_spelled cell o [] [] h = refl
row_spelled cell o [] (v ∷ vs) h = absurd h
row_spelled cell o (c ∷ cs) [] h = absurd h
row_spelled cell o (c ∷ cs) (v ∷ vs) h = (spelled o c.kind c.count v, row_text o cs vs, refl, cell o c.kind c.count v h.0, row_spelled cell o cs vs h.1)

-- the rows lie where the index tells
rows_lie : CellIsSpelled → (o : Order) (cs : List Col) (at : ℕ) (rows : List Row) → All (FitsRow cs) rows
    → AreSpans o cs rows at (rows_text o cs rows) (spans_from o cs at rows)
unfolding rows_text spans_from
rows_lie cell o cs at [] h = refl
rows_lie cell o cs at (row ∷ rows) h = (
  row_text o cs row,
  rows_text o cs rows,
  refl,
  row_spelled cell o cs row (All-head (FitsRow cs) row rows h),
  refl,
  rows_lie cell o cs (at + length (row_text o cs row)) rows (All-tail (FitsRow cs) row rows h),
)

spans_many : (o : Order) (cs : List Col) (at : ℕ) (rows : List Row) → length (spans_from o cs at rows) ≡ length rows
unfolding spans_from
spans_many o cs at [] = refl
spans_many o cs at (row ∷ rows) = let e = spans_many o cs (at + length (row_text o cs row)) rows in omega (arith, e)

-- the index of a written table is its own
table_indexed : CellIsSpelled → HeaderIsSpelled → (g : Grid) → IsWritable g → first_limit g ≡ None
    → IsIndexed g (canonical_table g) (row_index g.head.order (length (canonical_text g.head)) (canonical_spans g))
table_indexed cell header g w none =
    let small = small_table g none in
    let text = small.text in
    let rows = small.rows in
    let many = spans_many g.head.order g.head.columns (length (canonical_header g.head)) g.rows in
    record {
      spans = canonical_spans g;
      lie = record {
        front = canonical_header g.head;
        rest = rows_text g.head.order g.head.columns g.rows;
        parts = refl;
        header = header g.head w.sound small.text;
        rows = rows_lie cell g.head.order g.head.columns (length (canonical_header g.head)) g.rows w.fits;
        most = small.rows;
      };
      entries = record {
        second = length (canonical_text g.head);
        holds_second = omega (arith, text);
        holds_count = omega (arith, many, rows);
        holds_spans = table_has_spans g small;
        spelled = refl;
      };
    }

entries_long : (o : Order) (spans : List (ℕ × ℕ)) → length (entries_text o spans) ≡ 8 * length spans
unfolding entries_text
entries_long o [] = omega arith
entries_long o (s ∷ ss) =
    let rest = entries_long o ss in
    let a = length-append (number o w32 s.0) (number o w32 s.1 ++ entries_text o ss) in
    let b = length-append (number o w32 s.1) (entries_text o ss) in
    let c = length-number o s.0 in
    let d = length-number o s.1 in
    omega (arith, rest, a, b, c, d)

index_long : (o : Order) (second : ℕ) (spans : List (ℕ × ℕ)) → length (row_index o second spans) ≡ index_size (length spans)
index_long o second spans =
    let rest = entries_long o spans in
    let a = length-append (number o w32 (length spans)) (number o w32 second ++ entries_text o spans) in
    let b = length-append (number o w32 second) (entries_text o spans) in
    let c = length-number o (length spans) in
    let d = length-number o second in
    omega (arith, rest, a, b, c, d)

index_fits : (g : Grid) → first_limit g ≡ None → varies_in g.head.columns ≡ true
    → length (row_index g.head.order (length (canonical_text g.head)) (canonical_spans g)) ≤ most_bytes
index_fits g none varies =
    let s = (sizes_fit (length (canonical_text g.head)) (length g.rows) (length (canonical_table g)) (varies_in g.head.columns) none).1 in
    let t : ltb most_bytes (index_size (length g.rows)) ≡ false = rw varies at s in
    let few = ltb-false _ _ t in
    let many = spans_many g.head.order g.head.columns (length (canonical_header g.head)) g.rows in
    let long = index_long g.head.order (length (canonical_text g.head)) (canonical_spans g) in
    omega (arith, few, many, long)

pub table_opens : CellIsSpelled → TableIsSpelled → HeaderIsSpelled → (g : Grid) → IsWritable g → first_limit g ≡ None → OpensWritten g
table_opens cell table header g w none = elim (cases_Bool (varies_in g.head.columns)) [
  | inl t ↦
      Indexed (row_index g.head.order (length (canonical_text g.head)) (canonical_spans g)) t (rw t refl) (table_indexed cell header g w none)
      (index_fits g none t)
  | inr f ↦ Plain f (rw f refl) (table g w none)
]
