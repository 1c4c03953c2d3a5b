-- Rows in canonical spelling, cell by cell and row by row.
use Rattle.std.specs.Prelude.{if◌then◌else◌}
use Rattle.std.proofs.Common.{◌≡◌, ℕ, suc, ◌+◌, ◌<◌, ◌≤◌, Bool, true, false, cond, List, [], ◌∷◌, ◌++◌, length, drop, map, get_or, refl, sym, ap, subst, ◌∙◌, append_assoc, arith}
use Rattle.std.proofs.lemmas.List.{length-append, append-nil, drop_more, drop-map, length-drop, length-map}
use Rattle.vpf_base.specs.declared.orders.Order.{Order}
use Rattle.vpf_value.specs.declared.cells.Cell.{Cell}
use Rattle.vpf_value.specs.Values.{Value, view}
use Rattle.vpf_value.specs.Inner.Fitting.{FitsCell}
use Rattle.vpf_value.specs.Canonical.{spelled}
use Rattle.vpf_head.specs.Head.{Col}
use Rattle.vpf_table.specs.Grid.{Row}
use Rattle.vpf_table.specs.Canonical.{FitsRow, row_text, rows_text, spans_from}
use Rattle.vpf_write.specs.Inner.Drafts.{Progress, with_row, with_rows}

pub fits_len : (cs : List Col) (vs : Row) → FitsRow cs vs → length cs ≡ length vs
fits_len [] [] h = refl
fits_len [] (v ∷ vs) h = absurd h
fits_len (c ∷ cs) [] h = absurd h
fits_len (c ∷ cs) (v ∷ vs) h = ap suc (fits_len cs vs h.1)

-- the first cell that is left of a row, and those after it
pub record Next (o : Order) (cs : List Col) (vs : Row) (c : Col) (cs2 : List Col) (v : Value) (vs2 : Row) : Type 0 where
  pub fits : FitsCell c.kind c.count v
  pub more : FitsRow cs2 vs2
  pub text : row_text o cs vs ≡ spelled o c.kind c.count v ++ row_text o cs2 vs2

pub next_cell : (o : Order) (cs : List Col) (vs : Row) (c : Col) (cs2 : List Col) (v : Value) (vs2 : Row) → cs ≡ c ∷ cs2 → vs ≡ v ∷ vs2 → FitsRow cs vs → Next o cs vs c cs2 v vs2
unfolding row_text
next_cell o cs vs c cs2 v vs2 e g h =
    let f : FitsRow (c ∷ cs2) (v ∷ vs2) = subst (λ (x : Row). FitsRow (c ∷ cs2) x) g (subst (λ (x : List Col). FitsRow x vs) e h) in
    record { fits = f.0; more = f.1; text = rw (e, g) refl }

pub row_end : (o : Order) (cs : List Col) (vs : Row) → cs ≡ [] → row_text o cs vs ≡ []
unfolding row_text
row_end o cs vs e = rw e refl

-- a cell that is put, and the row that is left
pub cell_put : (o : Order) (cs : List Col) (vs : Row) (c : Col) (cs2 : List Col) (v : Value) (vs2 : Row) (out new all : List ℕ) → Next o cs vs c cs2 v vs2 → new ≡ out ++ spelled o c.kind c.count v
    → out ++ row_text o cs vs ≡ all → new ++ row_text o cs2 vs2 ≡ all
cell_put o cs vs c cs2 v vs2 out new all n e h = rw (e, append_assoc, ← n.text) h

-- the value of the next cell of a list
pub next_value : (cells : List Cell) (i : ℕ) (x : Cell) → i < length cells → x ≡ get_or cells i x → drop i (map view cells) ≡ view x ∷ drop (i + 1) (map view cells)
next_value cells i x h e =
    drop-map view i cells ∙ ap (map view) (drop_more cells i x h ∙ ap (λ (y : Cell). y ∷ drop (i + 1) cells) (sym e)) ∙ ap (λ (ys : Row). view x ∷ ys) (sym (drop-map view (i + 1) cells))

-- a row that fits has a cell in each column
pub cell_inside : (cs : List Col) (cells : List Cell) (i : ℕ) → FitsRow (drop i cs) (drop i (map view cells)) → i < length cs → i < length cells
cell_inside cs cells i h k = omega (arith, fits_len (drop i cs) (drop i (map view cells)) h, length-drop i cs, length-drop i (map view cells), length-map cells view)

-- ---- rows

abbrev made : List ℕ → List (ℕ × ℕ) → Bool → Progress
made t s b = record { table = t; spans = s; varies = b }

pub rows_cons : (o : Order) (cs : List Col) (rows : List Row) (row : Row) (more : List Row) → rows ≡ row ∷ more → rows_text o cs rows ≡ row_text o cs row ++ rows_text o cs more
unfolding rows_text
rows_cons o cs rows row more e = rw e refl

pub rows_none : (o : Order) (cs : List Col) (rows : List Row) → rows ≡ [] → rows_text o cs rows ≡ []
unfolding rows_text
rows_none o cs rows e = rw e refl

-- a row that is put, and the rows that are left
pub row_put : (o : Order) (cs : List Col) (rows : List Row) (row : Row) (more : List Row) (p new all : Progress) → rows ≡ row ∷ more → new ≡ with_row o cs p row → with_rows o cs p rows ≡ all → with_rows o cs new more ≡ all
unfolding with_rows
row_put o cs rows row more p new all e f h =
    let g : with_rows o cs p (row ∷ more) ≡ all = subst (λ (x : List Row). with_rows o cs p x ≡ all) e h in
    rw f g

pub rows_put : (o : Order) (cs : List Col) (p all : Progress) (rows : List Row) → rows ≡ [] → with_rows o cs p rows ≡ all → p ≡ all
unfolding with_rows
rows_put o cs p all rows e h = let g : with_rows o cs p [] ≡ all = subst (λ (x : List Row). with_rows o cs p x ≡ all) e h in g

-- the next row has room
pub row_fits : (o : Order) (cs : List Col) (rows : List Row) (row : Row) (more : List Row) (p : Progress) (most : ℕ) → rows ≡ row ∷ more → length p.table + length (rows_text o cs rows) ≤ most → length p.table + length (row_text o cs row) ≤ most
row_fits o cs rows row more p most e h =
    let whole = ap length (rows_cons o cs rows row more e) ∙ length-append (row_text o cs row) (rows_text o cs more) in
    omega (arith, h, whole)

-- and so have the rows after it
pub row_room : (o : Order) (cs : List Col) (rows : List Row) (row : Row) (more : List Row) (p new : Progress) (most : ℕ) → rows ≡ row ∷ more → new ≡ with_row o cs p row → length p.table + length (rows_text o cs rows) ≤ most → length new.table + length (rows_text o cs more) ≤ most
row_room o cs rows row more p new most e f h =
    let whole = ap length (rows_cons o cs rows row more e) ∙ length-append (row_text o cs row) (rows_text o cs more) in
    let table : length new.table ≡ length p.table + length (row_text o cs row) = ap (λ (x : Progress). length x.table) f ∙ length-append p.table (row_text o cs row) in
    omega (arith, h, whole, table)

-- what is written with rows more: they stand behind, and so do their places where these are kept
abbrev pub after_rows : Order → List Col → Progress → List Row → Progress
after_rows o cs p rows = record {
  table = p.table ++ rows_text o cs rows;
  spans = if p.varies then p.spans ++ spans_from o cs (length p.table) rows else p.spans;
  varies = p.varies;
}

spans_by : (b : Bool) (xs ys : List (ℕ × ℕ)) (x : ℕ × ℕ) → cond b (cond b (xs ++ x ∷ []) xs ++ ys) (cond b (xs ++ x ∷ []) xs) ≡ cond b (xs ++ x ∷ ys) xs
spans_by true xs ys x = append_assoc xs (x ∷ []) ys
spans_by false xs ys x = refl

nothing_more : (b : Bool) (xs : List (ℕ × ℕ)) → cond b (xs ++ []) xs ≡ xs
nothing_more true xs = append-nil xs
nothing_more false xs = refl

same_progress : (t u : List ℕ) (s r : List (ℕ × ℕ)) (b : Bool) → t ≡ u → s ≡ r → made t s b ≡ made u r b
same_progress t u s r b e f = rw (e, f) refl

pub with_rows-after : (o : Order) (cs : List Col) (p : Progress) (rows : List Row) → with_rows o cs p rows ≡ after_rows o cs p rows
unfolding with_rows rows_text spans_from
with_rows-after o cs p [] = same_progress _ _ _ _ p.varies (sym (append-nil p.table)) (sym (nothing_more p.varies p.spans))
with_rows-after o cs p (row ∷ rows) =
    let first = row_text o cs row in
    let table : (p.table ++ first) ++ rows_text o cs rows ≡ p.table ++ (first ++ rows_text o cs rows) = append_assoc p.table first (rows_text o cs rows) in
    let place : length (p.table ++ first) ≡ length p.table + length first = length-append p.table first in
    let spans = ap (λ (n : ℕ). spans_from o cs n rows) place in
    let q = with_row o cs p row in
    with_rows-after o cs q rows ∙ same_progress _ _ _ _ p.varies table (rw spans (spans_by p.varies p.spans (spans_from o cs (length p.table + length first) rows) (length p.table, length first)))
