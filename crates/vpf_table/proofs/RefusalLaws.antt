-- At its first fault a table is refused, or the index that is given with it.
use Rattle.std.proofs.Common.{◌≡◌, ℕ, zero, suc, ◌+◌, ◌-◌, ◌*◌, ◌<◌, ◌≤◌, Bool, true, false, List, [], ◌∷◌, ◌++◌, length, take, drop, Option, Some, None, Ok, Err, refl, sym, ap, ◌∙◌, append_assoc, arith}
use Rattle.std.specs.Prelude.{◌==◌, ◌&&◌}
use Rattle.std.proofs.lemmas.Bool.{lt-leb, eq-eqb, ne_eqb}
use Rattle.std.proofs.lemmas.List.{drop_at, drop-drop, length-append, length-drop}
use Rattle.vpf_base.specs.Limits.{most_rows}
use Rattle.vpf_base.specs.declared.orders.Order.{Order}
use Rattle.vpf_triplet.specs.declared.places.Place.{Place}
use Rattle.vpf_triplet.specs.declared.places.Code.{Code}
use Rattle.vpf_triplet.specs.declared.places.Code.TheVariants as codes
use Rattle.vpf_triplet.specs.Places.{fault}
use Rattle.vpf_findings.specs.Faults as values
use Rattle.vpf_findings.specs.Reading.{cell_from}
use Rattle.vpf_head.specs.Head.{Head, Col}
use Rattle.vpf_head.specs.Reading.{header_of}
use Rattle.vpf_varindex.specs.Reading.{index_at}
use Rattle.vpf_table.specs.Faults as faults
use Rattle.vpf_table.specs.Faults.{Begins, Stops, TableFault, Differs, FirstFault}
use Rattle.vpf_table.specs.Grid.{Row, Grid}
use Rattle.vpf_table.specs.Inner.Lower.{CellAndHeaderLaws, IndexLaws}
use Rattle.vpf_table.specs.Opening.{row_spans, first_other, opened_of}
use Rattle.vpf_table.specs.Reading.{row_at, rows_at, table_of}
use Rattle.vpf_table.specs.Spelling.{IsRow, IsRows}
use Rattle.vpf_table.proofs.FaultLaws.{same_pair, same_self}
use Rattle.vpf_table.proofs.RowLaws.{HasRoom, row_again}
use Rattle.vpf_table.proofs.SpanLaws.{length-row_spans, lying_again, lying_is_table}
use Rattle.vpf_table.proofs.TableLaws.{has_room, table_again}

-- ---- cells of a row

row_by : CellAndHeaderLaws → (o : Order) (before : List Col) (next : Col) (after : List Col) (cells : Row) (bytes : List ℕ) (at : ℕ) (text rest : List ℕ) (code : Code) → drop at bytes ≡ text ++ rest → IsRow o before cells text
    → values.FirstCellFault o next.kind next.count rest code → row_at o (before ++ next ∷ after) bytes at ≡ Err (fault (at + length text) code)
unfolding row_at
row_by laws o [] next after [] bytes at text rest code e h f =
    let here : drop at bytes ≡ rest = e ∙ ap (λ (t : List ℕ). t ++ rest) h in
    let z : at + length text ≡ at = omega (arith, ap length h) in
    rw (here, laws.cell_is_refused o next.kind next.count rest code f, z) refl
row_by laws o [] next after (v ∷ vs) bytes at text rest code e h f = absurd h
row_by laws o (c ∷ cs) next after [] bytes at text rest code e h f = absurd h
row_by laws o (c ∷ cs) next after (v ∷ vs) bytes at text rest code e h f =
    let x = h.0 in
    let y = h.1 in
    let split : drop at bytes ≡ x ++ (y ++ rest) = e ∙ ap (λ (t : List ℕ). t ++ rest) h.2 ∙ append_assoc x y rest in
    let cell : cell_from o c.kind c.count (drop at bytes) ≡ Ok (v, length x) = ap (cell_from o c.kind c.count) split ∙ laws.cell_is_read o c.kind c.count v x (y ++ rest) h.3 in
    let left : drop (at + length x) bytes ≡ y ++ rest = sym (drop-drop (length x) at bytes) ∙ ap (drop (length x)) split ∙ drop_at x (y ++ rest) (length x) refl in
    let more = row_by laws o cs next after vs bytes (at + length x) y rest code left h.4 f in
    let len : at + length x + length y ≡ at + length text = omega (arith, ap length h.2, length-append x y) in
    rw (cell, more, len) refl

row_refused : CellAndHeaderLaws → (o : Order) (cs : List Col) (bytes : List ℕ) (at : ℕ) (p : Place) → Stops o cs bytes at p → row_at o cs bytes at ≡ Err p
row_refused laws o cs bytes at p s =
    ap (λ (c : List Col). row_at o c bytes at) s.columns ∙ row_by laws o s.before s.next s.after s.cells bytes at s.text s.rest p.code s.parts s.spelled s.refused ∙ ap (λ (q : Place). Err q) (sym s.there)

-- ---- rows

rows_reach : CellAndHeaderLaws → (m : ℕ) (o : Order) (cs : List Col) (rows : List Row) (bytes : List ℕ) (at here : ℕ) (body rest : List ℕ) (p : Place) → HasRoom o cs → drop at bytes ≡ body ++ rest → IsRows o cs rows body → length rows ≤ m → here ≡ at + length body
    → rows_at (m - length rows) o cs bytes here ≡ Err p → rows_at m o cs bytes at ≡ Err p
unfolding rows_at
rows_reach laws m o cs [] bytes at here body rest p room e h few z f =
    let all : m - 0 ≡ m = omega arith in
    let same : here ≡ at = omega (arith, z, ap length h) in
    (rw (all, same) at f)
rows_reach laws zero o cs (r ∷ rs) bytes at here body rest p room e h few z f = absurd (omega arith)
rows_reach laws (suc m) o cs (r ∷ rs) bytes at here body rest p room e h few z f =
    let x = h.0 in
    let y = h.1 in
    let split : drop at bytes ≡ x ++ (y ++ rest) = e ∙ ap (λ (t : List ℕ). t ++ rest) h.2 ∙ append_assoc x y rest in
    let some : 0 < length x = room r x h.3 in
    let more : at < length bytes = omega (arith, length-drop at bytes, ap length split, length-append x (y ++ rest)) in
    let row = row_again laws o cs r bytes at x (y ++ rest) split h.3 in
    let left : drop (at + length x) bytes ≡ y ++ rest = sym (drop-drop (length x) at bytes) ∙ ap (drop (length x)) split ∙ drop_at x (y ++ rest) (length x) refl in
    let fewer : suc m - suc (length rs) ≡ m - length rs = omega arith in
    let others = rows_reach laws m o cs rs bytes (at + length x) here y rest p room left h.4 (omega arith) (omega (arith, z, ap length h.2, length-append x y)) (rw fewer at f) in
    rw (lt-leb _ _ more, row, others) refl

row_stops : (n : ℕ) (o : Order) (cs : List Col) (bytes : List ℕ) (at : ℕ) (p : Place) → 0 < n → at < length bytes → row_at o cs bytes at ≡ Err p → rows_at n o cs bytes at ≡ Err p
unfolding rows_at
row_stops zero o cs bytes at p some more e = absurd (omega arith)
row_stops (suc n) o cs bytes at p some more e = rw (lt-leb _ _ more, e) refl

rows_full : (n : ℕ) (o : Order) (cs : List Col) (bytes : List ℕ) (at : ℕ) → n ≡ 0 → at < length bytes → rows_at n o cs bytes at ≡ Err (fault at (codes.LimitRows (most_rows + 1)))
unfolding rows_at
rows_full zero o cs bytes at z more = rw (lt-leb _ _ more) refl
rows_full (suc n) o cs bytes at z more = absurd (omega arith)

-- ---- tables

rows_fail : (bytes : List ℕ) (h : Head) (start : ℕ) (p : Place) → header_of bytes ≡ Ok (h, start) → rows_at most_rows h.order h.columns bytes start ≡ Err p → table_of bytes ≡ Err p
unfolding table_of
rows_fail bytes h start p e f = rw (e, f) refl

header_fails : (bytes : List ℕ) (p : Place) → header_of bytes ≡ Err p → table_of bytes ≡ Err p
unfolding table_of
header_fails bytes p e = rw e refl

-- bytes follow the rows
more_there : (bytes : List ℕ) (h : Head) (rows : List Row) (at : ℕ) → Begins bytes h rows at → at < length bytes
more_there bytes h rows at b = omega (arith, b.there, b.more, ap length b.parts, length-append b.front (b.body ++ b.rest), length-append b.body b.rest)

after_rows : CellAndHeaderLaws → (bytes : List ℕ) (h : Head) (rows : List Row) (at : ℕ) (p : Place) → Begins bytes h rows at → length rows ≤ most_rows → rows_at (most_rows - length rows) h.order h.columns bytes at ≡ Err p → table_of bytes ≡ Err p
after_rows laws bytes h rows at p b few e =
    let head = laws.header_is_read bytes h b.front (b.body ++ b.rest) (record { parts = b.parts; spelled = b.header }) in
    let sound = laws.header_is_sound bytes h (length b.front) head in
    let left : drop (length b.front) bytes ≡ b.body ++ b.rest = ap (drop (length b.front)) b.parts ∙ drop_at b.front (b.body ++ b.rest) (length b.front) refl in
    rows_fail bytes h (length b.front) p head (rows_reach laws most_rows h.order h.columns rows bytes (length b.front) at b.body b.rest p (has_room laws h sound) left b.spelled few b.there e)

table_refused : CellAndHeaderLaws → (bytes : List ℕ) (p : Place) → TableFault bytes p → table_of bytes ≡ Err p
table_refused laws bytes p (faults.in_header q f) = header_fails bytes p (laws.header_is_refused bytes p f)
table_refused laws bytes p (faults.in_row h rows at q b few s) =
    after_rows laws bytes h rows at p b (omega (arith, few)) (row_stops (most_rows - length rows) h.order h.columns bytes at p (omega (arith, few)) (more_there bytes h rows at b) (row_refused laws h.order h.columns bytes at p s))
table_refused laws bytes p (faults.too_many h rows at b all) =
    after_rows laws bytes h rows at (fault at (codes.LimitRows (most_rows + 1))) b (omega (arith, all)) (rows_full (most_rows - length rows) h.order h.columns bytes at (omega (arith, all)) (more_there bytes h rows at b))

-- ---- tables with an index

some_is : (x y : ℕ × ℕ) → x ≡ y → Option.Some x ≡ Some y
some_is x y e = ap (λ (z : ℕ × ℕ). Some z) e

differs_first : (i k : ℕ) (es ss : List (ℕ × ℕ)) → length es ≡ length ss → Differs k es ss → first_other i es ss ≡ Some (i + k)
unfolding first_other
differs_first i k [] ss l d = absurd (omega (arith, d.inside))
differs_first i k (e ∷ es) [] l d = absurd (omega (arith, l))
differs_first i zero (e ∷ es) (s ∷ ss) l d = by (e.0 == s.0 && e.1 == s.1) refl
  where
    by : (t : Bool) → (e.0 == s.0 && e.1 == s.1) ≡ t → first_other i (e ∷ es) (s ∷ ss) ≡ Some (i + 0)
    by true q = absurd (d.other (some_is e s (same_pair e s q)))
    by false q = let z : i + 0 ≡ i = omega arith in rw (q, z) refl
differs_first i (suc k) (e ∷ es) (s ∷ ss) l d =
    let first : e ≡ s = let f = d.before in cc in
    let rest : take k es ≡ take k ss = let f = d.before in cc in
    let others = differs_first (i + 1) k es ss (omega (arith, l)) (record { before = rest; inside = omega (arith, d.inside); other = d.other }) in
    let z : i + 1 + k ≡ i + suc k = omega arith in
    rw (same_self e s first, others, z) refl

index_fails : (bytes index : List ℕ) (g : Grid) (p : Place) → table_of bytes ≡ Ok g → index_at g.head.order index ≡ Err p → opened_of bytes (Some index) ≡ Err p
index_fails bytes index g p e f = rw (e, f) refl

pub opening_refused : CellAndHeaderLaws → IndexLaws → (bytes : List ℕ) (index : Option (List ℕ)) (p : Place) → FirstFault bytes index p → opened_of bytes index ≡ Err p
opening_refused laws ix bytes None p (faults.in_table i q f) = table_refused laws bytes p f
opening_refused laws ix bytes (Some index) p (faults.in_table i q f) = rw (table_refused laws bytes p f) refl
opening_refused laws ix bytes (Some index) p (faults.in_index g i q t f) = index_fails bytes index g p (table_again laws g bytes t) (ix.index_is_refused g.head.order index p f)
opening_refused laws ix bytes (Some index) p (faults.other_count g i entries t x h) =
    rw (table_again laws g bytes t, ix.index_is_read g.head.order entries index x, ne_eqb (length entries) (length (row_spans bytes g)) (λ e. h (e ∙ length-row_spans bytes g))) refl
opening_refused laws ix bytes (Some index) p (faults.other_entry g i entries spans k l x n d) =
    let z : 8 + 8 * (0 + k) ≡ 8 + k * 8 = omega arith in
    rw (table_again laws g bytes (lying_is_table g bytes spans l), ix.index_is_read g.head.order entries index x, lying_again laws bytes g spans l, eq-eqb (length entries) (length spans) n, differs_first 0 k entries spans n d, z) refl
