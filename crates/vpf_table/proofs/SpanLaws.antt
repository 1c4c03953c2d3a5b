-- What is opened with its index is spelled so, and what is spelled so is opened.
use Rattle.std.proofs.Common.{◌≡◌, ℕ, zero, suc, ◌+◌, ◌-◌, ◌<◌, ◌≤◌, ◌^◌, leb, List, [], ◌∷◌, ◌++◌, length, take, drop, Option, Some, None, Ok, Err, refl, sym, ap, subst, ◌∙◌, arith, inl, inr}
use Rattle.std.specs.Prelude.{All, IfSome, slice_get, slice_range}
use Rattle.std.proofs.lemmas.List.{drop_at, take_at, drop-drop, take-append-drop, length-append, length-drop, length-take-le, drop_all}
use Rattle.std.proofs.lemmas.List.Elements.{All-nil, All-cons}
use Rattle.std.proofs.lemmas.Bool.{leb-true}
use Rattle.vpf_base.specs.Limits.{most_rows}
use Rattle.vpf_base.proofs.Booleans.{tested}
use Rattle.vpf_base.proofs.Results.{ok_is, bind_ok}
use Rattle.vpf_base.specs.Results.{◌>>=◌}
use Rattle.vpf_base.specs.Bytes.{IsBytes}
use Rattle.vpf_base.specs.declared.orders.Order.{Order}
use Rattle.vpf_triplet.specs.declared.places.Code.TheVariants as codes
use Rattle.vpf_triplet.specs.Places.{fault}
use Rattle.vpf_head.specs.Head.{Head, Col}
use Rattle.vpf_head.specs.Reading.{header_of}
use Rattle.vpf_varindex.specs.Reading.{index_at}
use Rattle.vpf_varindex.specs.RowIndex.{row_index, HasSpan, IsRowIndex}
use Rattle.vpf_table.specs.Grid.{Row, Grid}
use Rattle.vpf_table.specs.Reading.{row_at, rows_at, table_of}
use Rattle.vpf_table.specs.Spelling.{IsRow, IsRows, IsTable}
use Rattle.vpf_table.specs.Opening.{spans_at, start_of, row_spans, owned, opened_of}
use Rattle.vpf_table.specs.Spans.{AreSpans, LieAt, IsIndexed, IsOpened}
use Rattle.vpf_table.specs.Inner.Lower.{CellAndHeaderLaws, IndexLaws}
use Rattle.vpf_table.proofs.Parts.{rows}
use Rattle.vpf_table.proofs.CellOf.{is_ok_from}
use Rattle.vpf_table.proofs.RowLaws.{row_again, row_takes}
use Rattle.vpf_table.proofs.RowsFew.{rows_few}
use Rattle.vpf_table.proofs.TableLaws.{table_again, table_takes}
use Rattle.vpf_table.proofs.SpanLemmas.{length-spans}
use Rattle.vpf_table.proofs.Owning.{owned_is, owned_self}

-- rows that lie somewhere are rows
pub spans_are_rows : (o : Order) (cs : List Col) (rs : List Row) (at : ℕ) (b : List ℕ) (ss : List (ℕ × ℕ)) → AreSpans o cs rs at b ss → IsRows o cs rs b
spans_are_rows o cs [] at b [] h = h
spans_are_rows o cs [] at b (s ∷ ss) h = absurd h
spans_are_rows o cs (r ∷ rs) at b [] h = absurd h
spans_are_rows o cs (r ∷ rs) at b (s ∷ ss) h = (h.0, h.1, h.2, h.3, spans_are_rows o cs rs (at + length h.0) h.1 ss h.5)

spans_by : (n : ℕ) (o : Order) (cs : List Col) (bytes : List ℕ) (at past : ℕ) (r : Row) (len : ℕ) (ss : List (ℕ × ℕ)) → row_at o cs bytes at ≡ Ok (r, past) → past ≡ at + len → spans_at n o cs bytes past ≡ ss → spans_at (suc n) o cs bytes at ≡ (at, len) ∷ ss
unfolding spans_at
spans_by n o cs bytes at past r len ss e h k =
    let z : past - at ≡ len = omega arith in
    rw (e, z, k) refl

-- where rows lie is where they are read
pub spans_again : CellAndHeaderLaws → (o : Order) (cs : List Col) (rs : List Row) (bytes : List ℕ) (at : ℕ) (b : List ℕ) (ss : List (ℕ × ℕ)) → drop at bytes ≡ b → AreSpans o cs rs at b ss → spans_at (length rs) o cs bytes at ≡ ss
unfolding spans_at
spans_again laws o cs [] bytes at b [] e h = refl
spans_again laws o cs [] bytes at b (s ∷ ss) e h = absurd h
spans_again laws o cs (r ∷ rs) bytes at b [] e h = absurd h
spans_again laws o cs (r ∷ rs) bytes at b (s ∷ ss) e h =
    let x = h.0 in
    let y = h.1 in
    let split : drop at bytes ≡ x ++ y = e ∙ h.2 in
    let row = row_again laws o cs r bytes at x y split h.3 in
    let left : drop (at + length x) bytes ≡ y = sym (drop-drop (length x) at bytes) ∙ ap (drop (length x)) split ∙ drop_at x y (length x) refl in
    let others = spans_again laws o cs rs bytes (at + length x) y ss left h.5 in
    spans_by (length rs) o cs bytes at (at + length x) r (length x) ss row refl others ∙ ap (λ (z : ℕ × ℕ). z ∷ ss) (sym h.4)

-- rows that are read lie where they are read
pub spans_take : CellAndHeaderLaws → (m : ℕ) (o : Order) (cs : List Col) (bytes : List ℕ) (at : ℕ) (rs : List Row) → IsBytes bytes → at ≤ length bytes → rows_at m o cs bytes at ≡ Ok rs
    → AreSpans o cs rs at (drop at bytes) (spans_at (length rs) o cs bytes at)
unfolding rows_at spans_at
spans_take laws zero o cs bytes at rs fits h e =
    elim (tested (leb (length bytes) at) (rows []) (Err (fault at (codes.LimitRows (most_rows + 1)))) (rows rs) e) [
      | inl t ↦ subst (λ (x : List Row). AreSpans o cs x at (drop at bytes) (spans_at (length x) o cs bytes at)) (ok_is {x = []} {y = rs} t.1) (drop_all at bytes (leb-true _ _ t.0))
      | inr t ↦ absurd (let f = t.1 in cc)
    ]
spans_take laws (suc m) o cs bytes at rs fits h e =
    elim (tested (leb (length bytes) at) (rows []) (row_at o cs bytes at >>= λ r. rows_at m o cs bytes r.1 >>= λ others. Ok (r.0 ∷ others)) (rows rs) e) [
      | inl t ↦ subst (λ (x : List Row). AreSpans o cs x at (drop at bytes) (spans_at (length x) o cs bytes at)) (ok_is {x = []} {y = rs} t.1) (drop_all at bytes (leb-true _ _ t.0))
      | inr t ↦
          let a = bind_ok (row_at o cs bytes at) (λ r. rows_at m o cs bytes r.1 >>= λ others. Ok (r.0 ∷ others)) rs t.1 in
          let b = bind_ok (rows_at m o cs bytes a.0.1) (λ others. Ok (a.0.0 ∷ others)) rs a.2 in
          let row = row_takes laws o cs bytes at a.0.0 a.0.1 fits h a.1 in
          let others = spans_take laws m o cs bytes a.0.1 b.0 fits row.1 b.1 in
          let x = slice_range bytes at a.0.1 in
          let k : at + (a.0.1 - at) ≡ a.0.1 = omega (arith, row.0) in
          let split : drop at bytes ≡ x ++ drop a.0.1 bytes = sym (take-append-drop (a.0.1 - at) (drop at bytes)) ∙ ap (λ (d : List ℕ). x ++ d) (drop-drop (a.0.1 - at) at bytes ∙ ap (λ (n : ℕ). drop n bytes) k) in
          let len : length x ≡ a.0.1 - at = length-take-le (a.0.1 - at) (drop at bytes) (omega (arith, row.0, row.1, length-drop at bytes)) in
          let past : a.0.1 ≡ at + length x = omega (arith, row.0) in
          let spans = spans_by (length b.0) o cs bytes at a.0.1 a.0.0 (length x) (spans_at (length b.0) o cs bytes a.0.1) a.1 past refl in
          let rest : AreSpans o cs b.0 (at + length x) (drop a.0.1 bytes) (spans_at (length b.0) o cs bytes a.0.1) = subst (λ (n : ℕ). AreSpans o cs b.0 n (drop a.0.1 bytes) (spans_at (length b.0) o cs bytes a.0.1)) past others in
          let all : AreSpans o cs (a.0.0 ∷ b.0) at (drop at bytes) ((at, length x) ∷ spans_at (length b.0) o cs bytes a.0.1) = (x, drop a.0.1 bytes, split, row.2, refl, rest) in
          let here : AreSpans o cs (a.0.0 ∷ b.0) at (drop at bytes) (spans_at (length (a.0.0 ∷ b.0)) o cs bytes at) = subst (λ (ss : List (ℕ × ℕ)). AreSpans o cs (a.0.0 ∷ b.0) at (drop at bytes) ss) (sym spans) all in
          subst (λ (rr : List Row). AreSpans o cs rr at (drop at bytes) (spans_at (length rr) o cs bytes at)) (ok_is {x = (a.0.0 ∷ b.0)} {y = rs} b.2) here
    ]

-- ---- tables

pub lying_is_table : (g : Grid) (bytes : List ℕ) (spans : List (ℕ × ℕ)) → LieAt g bytes spans → IsTable g bytes
lying_is_table g bytes spans i = record { front = i.front; rest = i.rest; parts = i.parts; header = i.header; rows = spans_are_rows g.head.order g.head.columns g.rows (length i.front) i.rest spans i.rows; most = i.most }

pub indexed_is_table : (g : Grid) (bytes index : List ℕ) → IsIndexed g bytes index → IsTable g bytes
indexed_is_table g bytes index i = lying_is_table g bytes i.spans i.lie

-- rows lie where they are read
pub lying_again : CellAndHeaderLaws → (bytes : List ℕ) (g : Grid) (spans : List (ℕ × ℕ)) → LieAt g bytes spans → row_spans bytes g ≡ spans
lying_again laws bytes g spans l =
    let head = laws.header_is_read bytes g.head l.front l.rest (record { parts = l.parts; spelled = l.header }) in
    let start : start_of (header_of bytes) ≡ length l.front = ap start_of head in
    let left : drop (length l.front) bytes ≡ l.rest = ap (drop (length l.front)) l.parts ∙ drop_at l.front l.rest (length l.front) refl in
    ap (spans_at (length g.rows) g.head.order g.head.columns bytes) start ∙ spans_again laws g.head.order g.head.columns g.rows bytes (length l.front) l.rest spans left l.rows

pub opened_again : CellAndHeaderLaws → IndexLaws → (bytes : List ℕ) (index : Option (List ℕ)) (g : Grid) → IsOpened g bytes index → opened_of bytes index ≡ Ok g
opened_again laws ix bytes None g i = table_again laws g bytes i
opened_again laws ix bytes (Some index) g i =
    let table = table_again laws g bytes (indexed_is_table g bytes index i) in
    rw (table, ix.index_is_read g.head.order i.spans index i.entries, lying_again laws bytes g i.spans i.lie) (owned_self g i.spans)

-- the parts of a table that is read
record Parts (g : Grid) (bytes : List ℕ) : Type 0 where
  head : Head
  start : ℕ
  rows : List Row
  header : header_of bytes ≡ Ok (head, start)
  read : rows_at most_rows head.order head.columns bytes start ≡ Ok rows
  is : (let made : Grid = record { head = head; rows = rows } in made) ≡ g

parts_of : (bytes : List ℕ) (g : Grid) → table_of bytes ≡ Ok g → Parts g bytes
unfolding table_of
parts_of bytes g e =
    let a = bind_ok (header_of bytes) (λ h. rows_at most_rows h.0.order h.0.columns bytes h.1 >>= λ rs. Ok (record { head = h.0; rows = rs })) g e in
    let h = a.0 in
    let b = bind_ok (rows_at most_rows h.0.order h.0.columns bytes h.1) (λ rs. Ok (record { head = h.0; rows = rs })) g a.2 in
    record { head = h.0; start = h.1; rows = b.0; header = a.1; read = b.1; is = ok_is {x = (record { head = h.0; rows = b.0 })} {y = g} b.2 }

-- the rows of a table that is read lie at their spans
pub record Lies (g : Grid) (bytes : List ℕ) : Type 0 where
  pub start : ℕ
  pub inside : start ≤ length bytes
  pub header : header_of bytes ≡ Ok (g.head, start)
  pub rows : AreSpans g.head.order g.head.columns g.rows start (drop start bytes) (row_spans bytes g)
  pub most : length g.rows ≤ most_rows

pub lies : CellAndHeaderLaws → (bytes : List ℕ) (g : Grid) → IsBytes bytes → table_of bytes ≡ Ok g → Lies g bytes
lies laws bytes g fits e =
    let p = parts_of bytes g e in
    let h = p.head in
    let made : Grid = record { head = h; rows = p.rows } in
    let inside = (laws.header_is_spelled bytes h p.start fits p.header).0 in
    let few : length p.rows ≤ most_rows = (rw p.read at (rows_few most_rows h.order h.columns bytes p.start (is_ok_from _ p.rows p.read))) in
    let start : p.start ≡ start_of (header_of bytes) = sym (ap start_of p.header) in
    let rows = spans_take laws most_rows h.order h.columns bytes p.start p.rows fits inside p.read in
    let there : AreSpans h.order h.columns p.rows p.start (drop p.start bytes) (row_spans bytes made) = subst (λ (n : ℕ). AreSpans h.order h.columns p.rows p.start (drop p.start bytes) (spans_at (length p.rows) h.order h.columns bytes n)) start rows in
    subst (λ (x : Grid). Lies x bytes) p.is (record { start = p.start; inside = inside; header = p.header; rows = there; most = few })

-- .. apart from reading
pub lying : CellAndHeaderLaws → (bytes : List ℕ) (g : Grid) → IsBytes bytes → table_of bytes ≡ Ok g → LieAt g bytes (row_spans bytes g)
lying laws bytes g fits e =
    let l = lies laws bytes g fits e in
    let head = laws.header_is_spelled bytes g.head l.start fits l.header in
    let len : l.start ≡ length (take l.start bytes) = sym (length-take-le l.start bytes l.inside) in
    record {
      front = take l.start bytes;
      rest = drop l.start bytes;
      parts = sym (take-append-drop l.start bytes);
      header = head.1;
      rows = subst (λ (n : ℕ). AreSpans g.head.order g.head.columns g.rows n (drop l.start bytes) (row_spans bytes g)) len l.rows;
      most = l.most;
    }

indexed_by : CellAndHeaderLaws → (bytes index : List ℕ) (g : Grid) → IsBytes bytes → table_of bytes ≡ Ok g → IsRowIndex g.head.order (row_spans bytes g) index → IsIndexed g bytes index
indexed_by laws bytes index g fits e i = record { spans = row_spans bytes g; lie = lying laws bytes g fits e; entries = i }

pub opened_takes : CellAndHeaderLaws → IndexLaws → (bytes : List ℕ) (index : Option (List ℕ)) (g : Grid) → IsBytes bytes → IfSome index IsBytes → opened_of bytes index ≡ Ok g → IsOpened g bytes index
opened_takes laws ix bytes None g fits fits2 e = table_takes laws bytes g fits e
opened_takes laws ix bytes (Some index) g fits fits2 e =
    let a = bind_ok (table_of bytes) (λ h. index_at h.head.order index >>= λ es. owned h es (row_spans bytes h)) g e in
    let h = a.0 in
    let b = bind_ok (index_at h.head.order index) (λ es. owned h es (row_spans bytes h)) g a.2 in
    let c = owned_is h g b.0 (row_spans bytes h) b.2 in
    let i : IsRowIndex h.head.order (row_spans bytes h) index = ix.index_is_spelled h.head.order (row_spans bytes h) index fits2 (b.1 ∙ ap (λ (es : List (ℕ × ℕ)). Ok es) c.1) in
    subst (λ (x : Grid). IsIndexed x bytes index) c.0 (indexed_by laws bytes index h fits a.1 i)

-- what is opened is read, whatever index is given with it
pub opened_is_read : (bytes : List ℕ) (index : Option (List ℕ)) (g : Grid) → opened_of bytes index ≡ Ok g → table_of bytes ≡ Ok g
opened_is_read bytes None g e = e
opened_is_read bytes (Some index) g e =
    let a = bind_ok (table_of bytes) (λ h. index_at h.head.order index >>= λ es. owned h es (row_spans bytes h)) g e in
    let b = bind_ok (index_at a.0.head.order index) (λ es. owned a.0 es (row_spans bytes a.0)) g a.2 in
    let c = owned_is a.0 g b.0 (row_spans bytes a.0) b.2 in
    subst (λ (x : Grid). table_of bytes ≡ Ok x) c.0 a.1

-- ---- the index that is written

few_rows : (bytes : List ℕ) (g : Grid) → table_of bytes ≡ Ok g → length g.rows ≤ most_rows
few_rows bytes g e =
    let p = parts_of bytes g e in
    let few : length p.rows ≤ most_rows = (rw p.read at (rows_few most_rows p.head.order p.head.columns bytes p.start (is_ok_from _ p.rows p.read))) in
    subst (λ (x : Grid). length x.rows ≤ most_rows) p.is few

pub length-row_spans : (bytes : List ℕ) (g : Grid) → length (row_spans bytes g) ≡ length g.rows
length-row_spans bytes g = length-spans (length g.rows) g.head.order g.head.columns bytes (start_of (header_of bytes))

pub own_is_taken : IndexLaws → (bytes : List ℕ) (g : Grid) (second : ℕ) → table_of bytes ≡ Ok g → All HasSpan (row_spans bytes g) → opened_of bytes (Some (row_index g.head.order second (row_spans bytes g))) ≡ Ok g
own_is_taken ix bytes g second e all =
    let n : length (row_spans bytes g) < 2 ^ 32 = omega (arith, length-row_spans bytes g, few_rows bytes g e) in
    rw (e, ix.written_is_read g.head.order second (row_spans bytes g) n all) (owned_self g (row_spans bytes g))

spans_fit : (n : ℕ) (o : Order) (cs : List Col) (rs : List Row) (at : ℕ) (b : List ℕ) (ss : List (ℕ × ℕ)) → at + length b ≤ n → n < 2 ^ 32 → AreSpans o cs rs at b ss → All HasSpan ss
spans_fit n o cs [] at b [] h k i = All-nil HasSpan
spans_fit n o cs [] at b (s ∷ ss) h k i = absurd i
spans_fit n o cs (r ∷ rs) at b [] h k i = absurd i
spans_fit n o cs (r ∷ rs) at b (s ∷ ss) h k i =
    let len = ap length i.2 ∙ length-append i.0 i.1 in
    let here : HasSpan s = subst HasSpan (sym i.4) (omega (arith, len), omega (arith, len)) in
    All-cons HasSpan s ss here (spans_fit n o cs rs (at + length i.0) i.1 ss (omega (arith, len)) k i.5)

pub small_spans : CellAndHeaderLaws → (bytes : List ℕ) (g : Grid) → IsBytes bytes → table_of bytes ≡ Ok g → length bytes < 2 ^ 32 → All HasSpan (row_spans bytes g)
small_spans laws bytes g fits e h =
    let l = lies laws bytes g fits e in
    spans_fit (length bytes) g.head.order g.head.columns g.rows l.start (drop l.start bytes) (row_spans bytes g) (omega (arith, length-drop l.start bytes, l.inside)) h l.rows

-- ---- the bytes of a row

spelled_by : (o : Order) (cs : List Col) (bytes : List ℕ) (at : ℕ) (r row : Row) (x y : List ℕ) (s span : ℕ × ℕ) → drop at bytes ≡ x ++ y → IsRow o cs r x → s ≡ (at, length x) → r ≡ row → s ≡ span → IsRow o cs row (slice_range bytes span.0 (span.0 + span.1))
spelled_by o cs bytes at r row x y s span e h a b c =
    let z : at + length x - at ≡ length x = omega arith in
    let text : slice_range bytes at (at + length x) ≡ x = rw (z, e) (take_at x y (length x) refl) in
    let there : IsRow o cs row (slice_range bytes at (at + length x)) = rw (text, ← b) h in
    subst (λ (w : ℕ × ℕ). IsRow o cs row (slice_range bytes w.0 (w.0 + w.1))) (sym a ∙ c) there

some_row : (a b : Row) → Option.Some a ≡ Some b → a ≡ b
some_row a b e = cc

some_span : (a b : ℕ × ℕ) → Option.Some a ≡ Some b → a ≡ b
some_span a b e = cc

pub spelled_there : (o : Order) (cs : List Col) (bytes : List ℕ) (rs : List Row) (at : ℕ) (b : List ℕ) (ss : List (ℕ × ℕ)) (k : ℕ) (row : Row) (span : ℕ × ℕ) → drop at bytes ≡ b → AreSpans o cs rs at b ss
    → slice_get rs k ≡ Some row → slice_get ss k ≡ Some span → IsRow o cs row (slice_range bytes span.0 (span.0 + span.1))
spelled_there o cs bytes [] at b ss k row span e i r s = absurd cc
spelled_there o cs bytes (x ∷ rs) at b [] k row span e i r s = absurd i
spelled_there o cs bytes (x ∷ rs) at b (t ∷ ss) zero row span e i r s = spelled_by o cs bytes at x row i.0 i.1 t span (e ∙ i.2) i.3 i.4 (some_row x row r) (some_span t span s)
spelled_there o cs bytes (x ∷ rs) at b (t ∷ ss) (suc k) row span e i r s =
    let split : drop at bytes ≡ i.0 ++ i.1 = e ∙ i.2 in
    let left : drop (at + length i.0) bytes ≡ i.1 = sym (drop-drop (length i.0) at bytes) ∙ ap (drop (length i.0)) split ∙ drop_at i.0 i.1 (length i.0) refl in
    spelled_there o cs bytes rs (at + length i.0) i.1 ss k row span left i.5 r s

pub rows_are_spelled : CellAndHeaderLaws → (bytes : List ℕ) (g : Grid) (k : ℕ) (row : Row) (span : ℕ × ℕ) → IsBytes bytes → table_of bytes ≡ Ok g → slice_get g.rows k ≡ Some row → slice_get (row_spans bytes g) k ≡ Some span
    → IsRow g.head.order g.head.columns row (slice_range bytes span.0 (span.0 + span.1))
rows_are_spelled laws bytes g k row span fits e r s =
    let l = lies laws bytes g fits e in
    spelled_there g.head.order g.head.columns bytes g.rows l.start (drop l.start bytes) (row_spans bytes g) k row span refl l.rows r s
