-- An error of opening a table is its first fault.
use Rattle.std.proofs.Common.{◌≡◌, ℕ, zero, suc, ◌+◌, ◌-◌, ◌*◌, ◌<◌, ◌≤◌, Bool, true, false, cond, leb, List, [], ◌∷◌, ◌++◌, length, take, drop, Option, Some, None, Result, Ok, Err, refl, sym, ap, subst, ◌∙◌, append_assoc, arith}
use Rattle.std.specs.Prelude.{◌≢◌, ◌==◌, ◌&&◌, IfSome, slice_range}
use Rattle.std.proofs.lemmas.Bool.{leb-false, eqb-true, eqb-false, eq-eqb}
use Rattle.std.proofs.lemmas.List.{drop-drop, take-append-drop, length-append, length-drop, length-take-le}
use Rattle.vpf_base.specs.Limits.{most_rows}
use Rattle.vpf_base.proofs.ByteLists.{IsBytes-drop}
use Rattle.vpf_base.specs.Results.{◌>>=◌}
use Rattle.vpf_base.specs.Bytes.{IsBytes}
use Rattle.vpf_base.proofs.Results.{failed, err_is, no_ok}
use Rattle.vpf_base.specs.declared.orders.Order.{Order}
use Rattle.vpf_triplet.specs.declared.places.Place.{Place}
use Rattle.vpf_triplet.specs.declared.places.Code.{Code}
use Rattle.vpf_triplet.specs.declared.places.Code.TheVariants as codes
use Rattle.vpf_triplet.specs.Places.{fault, index_fault}
use Rattle.vpf_findings.specs.Values.{Value}
use Rattle.vpf_findings.specs.Reading.{cell_from}
use Rattle.vpf_head.specs.Head.{Head, Col}
use Rattle.vpf_head.specs.Reading.{header_of}
use Rattle.vpf_varindex.specs.Faults as indexes
use Rattle.vpf_varindex.specs.Reading.{index_at}
use Rattle.vpf_varindex.specs.RowIndex.{IsRowIndex}
use Rattle.vpf_table.specs.Faults as faults
use Rattle.vpf_table.specs.Faults.{Begins, Stops, TableFault, Differs, FirstFault}
use Rattle.vpf_table.specs.Grid.{Row, Grid}
use Rattle.vpf_table.specs.Inner.Lower.{CellAndHeaderLaws, IndexLaws}
use Rattle.vpf_table.specs.Opening.{row_spans, first_other, unless_other, owned, opened_of}
use Rattle.vpf_table.specs.Reading.{lifted, row_at, rows_at, table_of}
use Rattle.vpf_table.specs.Spelling.{IsRow, IsRows}
use Rattle.vpf_table.proofs.RowLaws.{row_takes}
use Rattle.vpf_table.proofs.SpanLaws.{length-row_spans, lying}
use Rattle.vpf_table.proofs.TableLaws.{table_takes}

-- ---- cells of a row

abbrev with_cell : Value → Result (Row × ℕ) Place → Result (Row × ℕ) Place
with_cell v r = r >>= λ others. Ok (v ∷ others.0, others.1)

then_cell : (v : Value) (r : Result (Row × ℕ) Place) (p : Place) → with_cell v r ≡ failed p → r ≡ Err p
then_cell v (Ok x) p e = absurd cc
then_cell v (Err q) p e = let k : q ≡ p = cc in ap failed k

abbrev then_row : Order → List Col → List ℕ → Result (Value × ℕ) Place → Result (Row × ℕ) Place
then_row o cs bytes r = r >>= λ first. row_at o cs bytes first.1 >>= λ others. Ok (first.0 ∷ others.0, others.1)

stops_later : CellAndHeaderLaws → (o : Order) (c : Col) (cs : List Col) (bytes : List ℕ) (at n : ℕ) (v : Value) (p : Place) → IsBytes bytes → at ≤ length bytes → cell_from o c.kind c.count (drop at bytes) ≡ Ok (v, n)
    → (at + n ≤ length bytes → Stops o cs bytes (at + n) p) → Stops o (c ∷ cs) bytes at p
stops_later laws o c cs bytes at n v p fits h e others =
    let t = laws.cell_is_spelled o c.kind c.count (drop at bytes) v n (IsBytes-drop at bytes fits) e in
    let s = others (omega (arith, h, t.0, length-drop at bytes)) in
    let cell = take n (drop at bytes) in
    let len : length cell ≡ n = length-take-le n (drop at bytes) t.0 in
    let there : at + n + length s.text ≡ at + length (cell ++ s.text) = omega (arith, len, length-append cell s.text) in
    record {
      before = c ∷ s.before;
      next = s.next;
      after = s.after;
      cells = v ∷ s.cells;
      text = cell ++ s.text;
      rest = s.rest;
      columns = ap (λ (y : List Col). c ∷ y) s.columns;
      parts = sym (take-append-drop n (drop at bytes)) ∙ ap (λ (d : List ℕ). cell ++ d) (drop-drop n at bytes ∙ s.parts) ∙ sym (append_assoc cell s.text s.rest);
      spelled = (cell, s.text, refl, t.1, s.spelled);
      refused = s.refused;
      there = s.there ∙ ap (λ (i : ℕ). fault i p.code) there;
    }

row_stops : CellAndHeaderLaws → (o : Order) (cs : List Col) (bytes : List ℕ) (at : ℕ) (p : Place) → IsBytes bytes → at ≤ length bytes → row_at o cs bytes at ≡ Err p → Stops o cs bytes at p
unfolding row_at
row_stops laws o [] bytes at p fits h e = absurd (no_ok ([], at) p e)
row_stops laws o (c ∷ cs) bytes at p fits h e = by (λ n low f. row_stops laws o cs bytes n p fits low f) (cell_from o c.kind c.count (drop at bytes)) refl e
  where
    by : ((n : ℕ) → n ≤ length bytes → row_at o cs bytes n ≡ Err p → Stops o cs bytes n p) → (r : Result (Value × ℕ) Code) → cell_from o c.kind c.count (drop at bytes) ≡ r → then_row o cs bytes (lifted at r) ≡ Err p → Stops o (c ∷ cs) bytes at p
    by others (Ok x) q f = stops_later laws o c cs bytes at x.1 x.0 p fits h q (λ low. others (at + x.1) low (then_cell x.0 (row_at o cs bytes (at + x.1)) p f))
    by others (Err code) q f =
        let z : at ≡ at + 0 = omega arith in
        subst (Stops o (c ∷ cs) bytes at) (err_is f) (record { before = []; next = c; after = cs; cells = []; text = []; rest = drop at bytes; columns = refl; parts = refl; spelled = refl; refused = laws.cell_fault o c.kind c.count (drop at bytes) code (IsBytes-drop at bytes fits) q; there = ap (λ (i : ℕ). fault i code) z })

-- ---- rows

-- so many rows are spelled from an offset on, and more bytes follow them
record Precedes (o : Order) (cs : List Col) (rows : List Row) (bytes : List ℕ) (at here : ℕ) : Type 0 where
  pub body : List ℕ
  pub rest : List ℕ
  pub parts : drop at bytes ≡ body ++ rest
  pub spelled : IsRows o cs rows body
  pub there : here ≡ at + length body
  pub more : 0 < length rest

none_precede : (o : Order) (cs : List Col) (bytes : List ℕ) (at : ℕ) → leb (length bytes) at ≡ false → Precedes o cs [] bytes at at
none_precede o cs bytes at q = record { body = []; rest = drop at bytes; parts = refl; spelled = refl; there = omega arith; more = omega (arith, length-drop at bytes, leb-false (length bytes) at q) }

-- a row before them
one_precedes : (o : Order) (cs : List Col) (r : Row) (rows : List Row) (bytes : List ℕ) (at n here : ℕ) → at ≤ n → n ≤ length bytes → IsRow o cs r (slice_range bytes at n) → Precedes o cs rows bytes n here → Precedes o cs (r ∷ rows) bytes at here
one_precedes o cs r rows bytes at n here low high i s =
    let x = slice_range bytes at n in
    let k : at + (n - at) ≡ n = omega (arith, low) in
    let split : drop at bytes ≡ x ++ drop n bytes = sym (take-append-drop (n - at) (drop at bytes)) ∙ ap (λ (d : List ℕ). x ++ d) (drop-drop (n - at) at bytes ∙ ap (λ (j : ℕ). drop j bytes) k) in
    let len : length x ≡ n - at = length-take-le (n - at) (drop at bytes) (omega (arith, low, high, length-drop at bytes)) in
    record {
      body = x ++ s.body;
      rest = s.rest;
      parts = split ∙ ap (λ (d : List ℕ). x ++ d) s.parts ∙ sym (append_assoc x s.body s.rest);
      spelled = (x, s.body, refl, i, s.spelled);
      there = s.there ∙ (omega (arith, len, low, length-append x s.body));
      more = s.more;
    }

-- where reading at most m rows from an offset on stops
data RowsFault (m : ℕ) (o : Order) (cs : List Col) (bytes : List ℕ) (at : ℕ) (p : Place) : Type 0 where
  in_row : (rows : List Row) (here : ℕ) → Precedes o cs rows bytes at here → length rows < m → Stops o cs bytes here p → RowsFault m o cs bytes at p
  too_many : (rows : List Row) (here : ℕ) → Precedes o cs rows bytes at here → length rows ≡ m → fault here (codes.LimitRows (most_rows + 1)) ≡ p → RowsFault m o cs bytes at p

rows_later : (m : ℕ) (o : Order) (cs : List Col) (r : Row) (bytes : List ℕ) (at n : ℕ) (p : Place) → at ≤ n → n ≤ length bytes → IsRow o cs r (slice_range bytes at n) → RowsFault m o cs bytes n p → RowsFault (suc m) o cs bytes at p
rows_later m o cs r bytes at n p low high i (in_row rows here s few stops) = in_row (r ∷ rows) here (one_precedes o cs r rows bytes at n here low high i s) (omega (arith, few)) stops
rows_later m o cs r bytes at n p low high i (too_many rows here s all is) = too_many (r ∷ rows) here (one_precedes o cs r rows bytes at n here low high i s) (ap suc all) is

then_rows : (r : Row) (s : Result (List Row) Place) (p : Place) → (s >>= λ rs. Ok (r ∷ rs)) ≡ failed p → s ≡ Err p
then_rows r (Ok rs) p e = absurd cc
then_rows r (Err q) p e = let k : q ≡ p = cc in ap failed k

rows_stop : CellAndHeaderLaws → (m : ℕ) (o : Order) (cs : List Col) (bytes : List ℕ) (at : ℕ) (p : Place) → IsBytes bytes → at ≤ length bytes → rows_at m o cs bytes at ≡ Err p → RowsFault m o cs bytes at p
unfolding rows_at
rows_stop laws zero o cs bytes at p fits h e = by (leb (length bytes) at) refl e
  where
    by : (t : Bool) → leb (length bytes) at ≡ t → cond t (Ok []) (Err (fault at (codes.LimitRows (most_rows + 1)))) ≡ failed {A = List Row} p → RowsFault zero o cs bytes at p
    by true q f = absurd (no_ok [] p f)
    by false q f = too_many [] at (none_precede o cs bytes at q) refl (err_is f)
rows_stop laws (suc m) o cs bytes at p fits h e = by (λ n low f. rows_stop laws m o cs bytes n p fits low f) (leb (length bytes) at) refl e
  where
    Others : Type 0
    Others = (n : ℕ) → n ≤ length bytes → rows_at m o cs bytes n ≡ Err p → RowsFault m o cs bytes n p

    after : Others → leb (length bytes) at ≡ false → (r : Result (Row × ℕ) Place) → row_at o cs bytes at ≡ r → (r >>= λ first. rows_at m o cs bytes first.1 >>= λ rs. Ok (first.0 ∷ rs)) ≡ failed p → RowsFault (suc m) o cs bytes at p
    after others q (Ok x) row f =
        let t = row_takes laws o cs bytes at x.0 x.1 fits h row in
        rows_later m o cs x.0 bytes at x.1 p t.0 t.1 t.2 (others x.1 t.1 (then_rows x.0 (rows_at m o cs bytes x.1) p f))
    after others q (Err place) row f = in_row [] at (none_precede o cs bytes at q) (omega arith) (row_stops laws o cs bytes at p fits h (row ∙ ap failed (err_is f)))

    by : Others → (t : Bool) → leb (length bytes) at ≡ t → cond t (Ok []) (row_at o cs bytes at >>= λ first. rows_at m o cs bytes first.1 >>= λ rs. Ok (first.0 ∷ rs)) ≡ failed p → RowsFault (suc m) o cs bytes at p
    by others true q f = absurd (no_ok [] p f)
    by others false q f = after others q (row_at o cs bytes at) refl f

-- ---- tables

begins : CellAndHeaderLaws → (bytes : List ℕ) (h : Head) (start : ℕ) (rows : List Row) (here : ℕ) → IsBytes bytes → header_of bytes ≡ Ok (h, start) → Precedes h.order h.columns rows bytes start here → Begins bytes h rows here
begins laws bytes h start rows here fits e s =
    let t = laws.header_is_spelled bytes h start fits e in
    let len : length (take start bytes) ≡ start = length-take-le start bytes t.0 in
    record {
      front = take start bytes;
      body = s.body;
      rest = s.rest;
      parts = sym (take-append-drop start bytes) ∙ ap (λ (d : List ℕ). take start bytes ++ d) s.parts;
      header = t.1;
      spelled = s.spelled;
      there = s.there ∙ ap (λ (i : ℕ). i + length s.body) (sym len);
      more = s.more;
    }

row_fault : CellAndHeaderLaws → (bytes : List ℕ) (h : Head) (start : ℕ) (p : Place) → IsBytes bytes → header_of bytes ≡ Ok (h, start) → RowsFault most_rows h.order h.columns bytes start p → TableFault bytes p
row_fault laws bytes h start p fits e (in_row rows here s few stops) = faults.in_row h rows here p (begins laws bytes h start rows here fits e s) few stops
row_fault laws bytes h start p fits e (too_many rows here s all is) = subst (TableFault bytes) is (faults.too_many h rows here (begins laws bytes h start rows here fits e s) all)

then_grid : (h : Head) (s : Result (List Row) Place) (p : Place) → (s >>= λ rs. Ok (let g : Grid = record { head = h; rows = rs } in g)) ≡ failed p → s ≡ Err p
then_grid h (Ok rs) p e = absurd cc
then_grid h (Err q) p e = let k : q ≡ p = cc in ap failed k

table_faults : CellAndHeaderLaws → (bytes : List ℕ) (p : Place) → IsBytes bytes → table_of bytes ≡ Err p → TableFault bytes p
unfolding table_of
table_faults laws bytes p fits e = by (header_of bytes) refl e
  where
    by : (r : Result (Head × ℕ) Place) → header_of bytes ≡ r → (r >>= λ h. rows_at most_rows h.0.order h.0.columns bytes h.1 >>= λ rs. Ok (let g : Grid = record { head = h.0; rows = rs } in g)) ≡ failed p → TableFault bytes p
    by (Ok h) q f =
        let inside = (laws.header_is_spelled bytes h.0 h.1 fits q).0 in
        row_fault laws bytes h.0 h.1 p fits q (rows_stop laws most_rows h.0.order h.0.columns bytes h.1 p fits inside (then_grid h.0 (rows_at most_rows h.0.order h.0.columns bytes h.1) p f))
    by (Err place) q f = faults.in_header p (laws.header_fault bytes p (q ∙ ap failed (err_is f)))

-- ---- tables with an index

pub same_pair : (e s : ℕ × ℕ) → (e.0 == s.0 && e.1 == s.1) ≡ true → e ≡ s
same_pair e s h = by (e.0 == s.0) (e.1 == s.1) refl refl h
  where
    by : (a b : Bool) → (e.0 == s.0) ≡ a → (e.1 == s.1) ≡ b → (a && b) ≡ true → e ≡ s
    by true true x y z = let k = eqb-true e.0 s.0 x in let l = eqb-true e.1 s.1 y in (rw (k, l) refl)
    by true false x y z = absurd cc
    by false b x y z = absurd cc

pub same_self : (e s : ℕ × ℕ) → e ≡ s → (e.0 == s.0 && e.1 == s.1) ≡ true
same_self e s h = rw (h, eq-eqb s.0 s.0 refl, eq-eqb s.1 s.1 refl) refl

differs_later : (e s : ℕ × ℕ) (k : ℕ) (es ss : List (ℕ × ℕ)) → e ≡ s → Differs k es ss → Differs (suc k) (e ∷ es) (s ∷ ss)
differs_later e s k es ss h d = record { before = rw (h, d.before) refl; inside = omega (arith, d.inside); other = d.other }

some_is : (x y : ℕ × ℕ) → Option.Some x ≡ Some y → x ≡ y
some_is x y e = cc

differs : (i : ℕ) (es ss : List (ℕ × ℕ)) (k : ℕ) → length es ≡ length ss → first_other i es ss ≡ Some k → (j : ℕ) × (k ≡ i + j) × Differs j es ss
unfolding first_other
differs i [] ss k l e = absurd cc
differs i (x ∷ es) [] k l e = absurd cc
differs i (x ∷ es) (s ∷ ss) k l e = by (λ f. differs (i + 1) es ss k (omega (arith, l)) f) (x.0 == s.0 && x.1 == s.1) refl e
  where
    by : (first_other (i + 1) es ss ≡ Some k → (j : ℕ) × (k ≡ i + 1 + j) × Differs j es ss) → (t : Bool) → (x.0 == s.0 && x.1 == s.1) ≡ t → cond t (first_other (i + 1) es ss) (Some i) ≡ Some k → (j : ℕ) × (k ≡ i + j) × Differs j (x ∷ es) (s ∷ ss)
    by others true q f = let d = others f in (suc d.0, omega (arith, d.1), differs_later x s d.0 es ss (same_pair x s q) d.2)
    by others false q f =
        let k_is : i ≡ k = cc in
        (0, omega (arith, k_is), record { before = refl; inside = omega arith; other = λ same. let z : true ≡ false = sym (same_self x s (some_is x s same)) ∙ q in cc })

owned_fault : CellAndHeaderLaws → IndexLaws → (bytes index : List ℕ) (g : Grid) (es : List (ℕ × ℕ)) (p : Place) → IsBytes bytes → IsBytes index → table_of bytes ≡ Ok g → index_at g.head.order index ≡ Ok es
    → owned g es (row_spans bytes g) ≡ Err p → FirstFault bytes (Some index) p
owned_fault laws ix bytes index g es p fits fits2 table read e = by (length es == length (row_spans bytes g)) refl e
  where
    spelled : IsRowIndex g.head.order es index
    spelled = ix.index_is_spelled g.head.order es index fits2 read

    entry : length es ≡ length (row_spans bytes g) → (r : Option ℕ) → first_other 0 es (row_spans bytes g) ≡ r → unless_other g r ≡ Err p → FirstFault bytes (Some index) p
    entry l None q f = absurd (no_ok g p f)
    entry l (Some k) q f =
        let d = differs 0 es (row_spans bytes g) k l q in
        let at : indexes.index_entry_start d.0 ≡ 8 + 8 * k = omega (arith, d.1) in
        let is : index_fault (indexes.index_entry_start d.0) codes.IndexRow ≡ p = ap (λ (i : ℕ). index_fault i codes.IndexRow) at ∙ err_is f in
        subst (FirstFault bytes (Some index)) is (faults.other_entry g index es (row_spans bytes g) d.0 (lying laws bytes g fits table) spelled l d.2)

    by : (t : Bool) → (length es == length (row_spans bytes g)) ≡ t → cond t (unless_other g (first_other 0 es (row_spans bytes g))) (Err (index_fault 0 codes.IndexCount)) ≡ failed p → FirstFault bytes (Some index) p
    by true q f = entry (eqb-true _ _ q) (first_other 0 es (row_spans bytes g)) refl f
    by false q f =
        let other : length es ≢ length g.rows = λ same. eqb-false _ _ q (same ∙ sym (length-row_spans bytes g)) in
        subst (FirstFault bytes (Some index)) (err_is f) (faults.other_count g index es (table_takes laws bytes g fits table) spelled other)

pub opening_faults : CellAndHeaderLaws → IndexLaws → (bytes : List ℕ) (index : Option (List ℕ)) (p : Place) → IsBytes bytes → IfSome index IsBytes → opened_of bytes index ≡ Err p → FirstFault bytes index p
opening_faults laws ix bytes None p fits fits2 e = faults.in_table None p (table_faults laws bytes p fits e)
opening_faults laws ix bytes (Some index) p fits fits2 e = by (table_of bytes) refl e
  where
    after : (g : Grid) → table_of bytes ≡ Ok g → (r : Result (List (ℕ × ℕ)) Place) → index_at g.head.order index ≡ r → (r >>= λ entries. owned g entries (row_spans bytes g)) ≡ Err p → FirstFault bytes (Some index) p
    after g table (Ok es) q f = owned_fault laws ix bytes index g es p fits fits2 table q f
    after g table (Err place) q f = faults.in_index g index p (table_takes laws bytes g fits table) (ix.index_fault g.head.order index p (q ∙ ap failed (err_is f)))

    by : (r : Result Grid Place) → table_of bytes ≡ r → (r >>= λ g. index_at g.head.order index >>= λ entries. owned g entries (row_spans bytes g)) ≡ failed p → FirstFault bytes (Some index) p
    by (Ok g) q f = after g q (index_at g.head.order index) refl f
    by (Err place) q f = faults.in_table (Some index) p (table_faults laws bytes p fits (q ∙ ap failed (err_is f)))
