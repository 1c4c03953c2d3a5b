-- A table that is written row by row.
use Rattle.std.specs.Prelude.{[], min}
use Rattle.std.proofs.Common.{◌≡◌, ℕ, ◌+◌, ◌-◌, ◌^◌, ◌≤◌, Bool, false, List, ◌∷◌, ◌++◌, length, Option, None, refl, sym, ap, subst, ◌∙◌, append_assoc, arith}
use Rattle.std.proofs.lemmas.List.{length-append, append-nil}
use Rattle.vpf_base.specs.Limits.{most_bytes}
use Rattle.vpf_base.specs.declared.orders.Order.{Order}
use Rattle.vpf_triplet.specs.declared.places.Part.{Part}
use Rattle.vpf_head.specs.Canonical.{canonical_text}
use Rattle.vpf_head.specs.Head.{Col, Head, varies_in}
use Rattle.vpf_table.specs.declared.limit.Limit.{Limit}
use Rattle.vpf_table.specs.Canonical.{canonical_table, row_text, rows_text}
use Rattle.vpf_table.specs.Grid.{Row}
use Rattle.vpf_write.specs.Inner.Drafts.{Progress, begun, with_row, with_rows}
use Rattle.vpf_write.specs.Inner.Tallies.{Tally, Holds, grid_with}
use Rattle.vpf_write.specs.Writing.{first_limit, limit_by}
use Rattle.vpf_write.proofs.WholeTables.{length-header, length-table, written_by}
use Rattle.vpf_write.specs.Inner.WholeLaws.{within_limits}
use Rattle.vpf_write.proofs.WriteLimits.{limit-counted, limit-fewer, limit-told}

-- ---- one row more

rows_text-last : (o : Order) (cs : List Col) (rows : List Row) (row : Row) → rows_text o cs (rows ++ row ∷ []) ≡ rows_text o cs rows ++ row_text o cs row
unfolding rows_text
rows_text-last o cs [] row = append-nil (row_text o cs row)
rows_text-last o cs (r ∷ rows) row = rw (rows_text-last o cs rows row) (sym (append_assoc (row_text o cs r) (rows_text o cs rows) (row_text o cs row)))

with_rows-last : (o : Order) (cs : List Col) (p : Progress) (rows : List Row) (row : Row) → with_rows o cs p (rows ++ row ∷ []) ≡ with_row o cs (with_rows o cs p rows) row
unfolding with_rows
with_rows-last o cs p [] row = refl
with_rows-last o cs p (r ∷ rows) row = with_rows-last o cs (with_row o cs p r) rows row

longer : (o : Order) (cs : List Col) (rows : List Row) (row : Row) → length (rows_text o cs (rows ++ row ∷ [])) ≡ length (rows_text o cs rows) + length (row_text o cs row)
longer o cs rows row = ap length (rows_text-last o cs rows row) ∙ length-append (rows_text o cs rows) (row_text o cs row)

more : (rows : List Row) (row : Row) → length (rows ++ row ∷ []) ≡ length rows + 1
more rows row = length-append rows (row ∷ [])

-- ---- limits

-- what is told of the counted rows is the limit of their table
pub told_of : (t : Tally) (rows : List Row) (text count size : ℕ) (varies : Bool) (told : Option (Part × Limit)) → text ≡ length (canonical_text t.head) → varies ≡ varies_in t.head.columns
    → count ≡ min (length rows) (2 ^ 64 - 1) → size ≡ min (length (rows_text t.head.order t.head.columns rows)) (2 ^ 64 - 1) → told ≡ limit_by text count (4 + text + size) varies → first_limit (grid_with t rows) ≡ told
told_of t rows text count size varies told e f counted sized is =
    let g = grid_with t rows in
    let v = varies_in t.head.columns in
    let whole = limit-told (length (canonical_text t.head)) (length rows) (4 + text + size) (length (canonical_table g)) v (omega (arith, length-table g, length-header t.head, e, sized)) in
    let many = limit-counted (length (canonical_text t.head)) count (length rows) (4 + text + size) v (omega (arith, counted)) in
    let named : limit_by text count (4 + text + size) varies ≡ limit_by (length (canonical_text t.head)) count (4 + text + size) v = ap (λ (n : ℕ). limit_by n count (4 + text + size) varies) e ∙ ap (λ (b : Bool). limit_by (length (canonical_text t.head)) count (4 + text + size) b) f in
    sym (is ∙ named ∙ many ∙ whole)

-- what is told with one row more
pub told_more : (t : Tally) (rows : List Row) (row : Row) (text len count size : ℕ) (varies : Bool) (told : Option (Part × Limit)) → text ≡ length (canonical_text t.head) → varies ≡ varies_in t.head.columns → len ≡ min (length (row_text t.head.order t.head.columns row)) (2 ^ 64 - 1)
    → size ≡ min (t.size + len) (2 ^ 64 - 1) → count ≡ min (t.rows + 1) (2 ^ 64 - 1) → told ≡ limit_by text count (4 + text + size) varies → Holds t rows → first_limit (grid_with t (rows ++ row ∷ [])) ≡ told
told_more t rows row text len count size varies told e f row_len sized counted is h =
    told_of t (rows ++ row ∷ []) text count size varies told e f (omega (arith, counted, h.count, more rows row)) (omega (arith, sized, row_len, h.size, longer t.head.order t.head.columns rows row)) is

-- a table that passes no limit passed none without its last row
pub limit_before : (t : Tally) (rows : List Row) (row : Row) → first_limit (grid_with t (rows ++ row ∷ [])) ≡ None → first_limit (grid_with t rows) ≡ None
limit_before t rows row e =
    let g = grid_with t rows in
    let last = grid_with t (rows ++ row ∷ []) in
    limit-fewer (length (canonical_text t.head)) (length rows) (length last.rows) (length (canonical_table g)) (length (canonical_table last)) (varies_in t.head.columns) (omega (arith, more rows row)) (omega (arith, length-table g, length-table last, longer t.head.order t.head.columns rows row)) e

-- the next row has room
pub room_for : (t : Tally) (rows : List Row) (row : Row) → t.failed ≡ false → Holds t rows → first_limit (grid_with t (rows ++ row ∷ [])) ≡ None → length t.kept.table + length (row_text t.head.order t.head.columns row) ≤ most_bytes
room_for t rows row sound h e =
    let g = grid_with t rows in
    let last = grid_with t (rows ++ row ∷ []) in
    let made = written_by g (begun t.head) t.kept refl (h.kept sound (limit_before t rows row e)) in
    omega (arith, ap length made.table, (within_limits last e).size_fits, length-table g, length-table last, longer t.head.order t.head.columns rows row)

-- ---- what is held

pub nothing_held : (h : Head) (p : Progress) (failed : Bool) → (length (canonical_text h) ≤ 65536 → p ≡ begun h) → Holds (record { head = h; rows = 0; size = 0; kept = p; failed = failed }) []
unfolding with_rows rows_text
nothing_held h p failed e = record { count = refl; size = refl; kept = λ sound none. e (within_limits (record { head = h; rows = [] }) none).text_fits }

-- a row more is held
pub one_more : (t u : Tally) (rows : List Row) (row : Row) (len : ℕ) → u.head ≡ t.head → len ≡ min (length (row_text t.head.order t.head.columns row)) (2 ^ 64 - 1) → u.size ≡ min (t.size + len) (2 ^ 64 - 1) → u.rows ≡ min (t.rows + 1) (2 ^ 64 - 1)
    → (first_limit (grid_with t (rows ++ row ∷ [])) ≡ None → u.kept ≡ with_row t.head.order t.head.columns t.kept row) → t.failed ≡ false → Holds t rows → Holds u (rows ++ row ∷ [])
one_more t u rows row len same row_len size count kept sound h =
    let o = t.head.order in
    let cs = t.head.columns in
    let text : length (rows_text t.head.order t.head.columns (rows ++ row ∷ [])) ≡ length (rows_text o cs rows) + length (row_text o cs row) = longer o cs rows row in
    rw same record {
      count = omega (arith, count, h.count, more rows row);
      size = omega (arith, size, row_len, h.size, text);
      kept = λ _ none. kept none ∙ ap (λ (p : Progress). with_row o cs p row) (h.kept sound (limit_before t rows row none)) ∙ sym (with_rows-last o cs (begun t.head) rows row);
    }

-- of all rows some are put, and these are left
pub record IsPutSoFar (t : Tally) (left all : List Row) : Type 0 where
  pub put : List Row
  pub holds : Holds t put
  pub whole : put ++ left ≡ all

pub put_next : (t u : Tally) (left all : List Row) (row : Row) (rest : List Row) → left ≡ row ∷ rest → ((rows : List Row) → Holds t rows → Holds u (rows ++ row ∷ [])) → IsPutSoFar t left all → IsPutSoFar u rest all
put_next t u left all row rest e put p = record { put = p.put ++ row ∷ []; holds = put p.put p.holds; whole = append_assoc p.put (row ∷ []) rest ∙ sym (ap (λ (xs : List Row). p.put ++ xs) e) ∙ p.whole }

pub all_put : (t : Tally) (left all : List Row) → left ≡ [] → IsPutSoFar t left all → Holds t all
all_put t left all e p =
    let same : p.put ≡ all = sym (append-nil p.put) ∙ sym (ap (λ (xs : List Row). p.put ++ xs) e) ∙ p.whole in
    subst (λ (rows : List Row). Holds t rows) same p.holds
