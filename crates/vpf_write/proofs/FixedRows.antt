-- Rows of one width: those of the other order are these with the words turned round.
use Rattle.std.specs.Prelude.{All}
use Rattle.std.proofs.Common.{◌≡◌, ◌≢◌, ℕ, suc, ◌+◌, ◌*◌, ◌/◌, ◌<◌, Bool, false, cond, List, [], ◌∷◌, ◌++◌, length, Option, Some, None, refl, sym, ap, ◌∙◌, arith}
use Rattle.std.proofs.Math.Nat.{mul-add-div_right}
use Rattle.std.proofs.lemmas.List.{length-append, take_at, drop_at}
use Rattle.std.proofs.lemmas.List.Elements.{All-head, All-tail}
use Rattle.std.proofs.lemmas.List.Sums.{sum_by-cons}
use Rattle.vpf_base.specs.declared.orders.Order.{Order}
use Rattle.vpf_triplet.specs.declared.kinds.Kind.{Kind}
use Rattle.vpf_triplet.specs.declared.kinds.Count.{Count}
use Rattle.vpf_value.specs.Values.{Value}
use Rattle.vpf_value.specs.Inner.Fitting.{FitsCell}
use Rattle.vpf_value.specs.Canonical.{spelled}
use Rattle.vpf_value.specs.Widths.{cell_width}
use Rattle.vpf_value.specs.Inner.Turning.{each_piece, word_size, turned_cell}
use Rattle.vpf_head.specs.Head.{Col}
use Rattle.vpf_write.specs.declared.turning.Field.{Field}
use Rattle.vpf_table.specs.Grid.{Row}
use Rattle.vpf_table.specs.Inner.Widths.{add_width, width_of}
use Rattle.vpf_table.specs.Canonical.{FitsRow, row_text, rows_text}
use Rattle.vpf_write.specs.Inner.Drafts.{Progress, with_rows, with_bytes}
use Rattle.vpf_write.specs.Inner.Turning.{field_of, fields_of, fields_width, turned_row, turned_rows}
use Rattle.vpf_write.proofs.RowTexts.{with_rows-after}

-- the parts of a width
width_parts : (a b : Option ℕ) (w : ℕ) → add_width a b ≡ Some w → (x : ℕ) × (y : ℕ) × (a ≡ Some x) × (b ≡ Some y) × (x + y ≡ w)
width_parts None b w e = absurd cc
width_parts (Some a) None w e = absurd cc
width_parts (Some a) (Some b) w e = (a, b, refl, refl, cc)

-- ---- the other order

-- a cell of one width in the other order
abbrev pub Turned : Type 0
Turned = (order other : Order) (kind : Kind) (count : Count) (v : Value) (width : ℕ) → order ≢ other → cell_width kind count ≡ Some width → FitsCell kind count v → spelled other kind count v ≡ turned_cell (word_size kind) (spelled order kind count v)

-- and how long it is
abbrev pub HasWidth : Type 0
HasWidth = (order : Order) (kind : Kind) (count : Count) (v : Value) (width : ℕ) → cell_width kind count ≡ Some width → FitsCell kind count v → length (spelled order kind count v) ≡ width

length-row : HasWidth → (o : Order) (cs : List Col) (row : Row) (w : ℕ) → width_of cs ≡ Some w → FitsRow cs row → length (row_text o cs row) ≡ w
unfolding row_text
length-row wide o [] [] w e h = let z : Some 0 ≡ Some w = e in cc
length-row wide o [] (v ∷ vs) w e h = absurd h
length-row wide o (c ∷ cs) [] w e h = absurd h
length-row wide o (c ∷ cs) (v ∷ vs) w e h =
    let a = width_parts (cell_width c.kind c.count) (width_of cs) w e in
    omega (arith, length-append (spelled o c.kind c.count v) (row_text o cs vs), wide o c.kind c.count v a.0 a.2 h.0, length-row wide o cs vs a.1 a.3 h.1, a.4)

field_wide : (c : Col) (w : ℕ) → cell_width c.kind c.count ≡ Some w → (field_of c).width ≡ w
field_wide c w e = rw e refl

row_turned : Turned → HasWidth → (o p : Order) (cs : List Col) (row : Row) (w : ℕ) → o ≢ p → width_of cs ≡ Some w → FitsRow cs row → row_text p cs row ≡ turned_row (fields_of cs) (row_text o cs row)
unfolding row_text turned_row
row_turned turned wide o p [] [] w other e h = refl
row_turned turned wide o p [] (v ∷ vs) w other e h = absurd h
row_turned turned wide o p (c ∷ cs) [] w other e h = absurd h
row_turned turned wide o p (c ∷ cs) (v ∷ vs) w other e h =
    let a = width_parts (cell_width c.kind c.count) (width_of cs) w e in
    let cell = spelled o c.kind c.count v in
    let rest = row_text o cs vs in
    let len : length cell ≡ (field_of c).width = wide o c.kind c.count v a.0 a.2 h.0 ∙ sym (field_wide c a.0 a.2) in
    let front = take_at cell rest (field_of c).width len in
    let back = drop_at cell rest (field_of c).width len in
    rw (front, back, turned o p c.kind c.count v a.0 other a.2 h.0, row_turned turned wide o p cs vs a.1 other a.3 h.1) refl

pieces_turned : Turned → HasWidth → (o p : Order) (cs : List Col) (rows : List Row) (w : ℕ) → o ≢ p → width_of cs ≡ Some w → All (FitsRow cs) rows → rows_text p cs rows ≡ each_piece (turned_row (fields_of cs)) (length rows) w (rows_text o cs rows)
unfolding rows_text each_piece
pieces_turned turned wide o p cs [] w other e h = refl
pieces_turned turned wide o p cs (row ∷ rows) w other e h =
    let fits = All-head (FitsRow cs) row rows h in
    let text = row_text o cs row in
    let rest = rows_text o cs rows in
    let len = length-row wide o cs row w e fits in
    let front = take_at text rest w len in
    let back = drop_at text rest w len in
    rw (front, back, row_turned turned wide o p cs row w other e fits, pieces_turned turned wide o p cs rows w other e (All-tail (FitsRow cs) row rows h)) refl

pub length-rows : HasWidth → (o : Order) (cs : List Col) (rows : List Row) (w : ℕ) → width_of cs ≡ Some w → All (FitsRow cs) rows → length (rows_text o cs rows) ≡ length rows * w
unfolding rows_text
length-rows wide o cs [] w e h = omega arith
length-rows wide o cs (row ∷ rows) w e h =
    let more : suc (length rows) * w ≡ w + length rows * w = omega arith in
    omega (arith, length-append (row_text o cs row) (rows_text o cs rows), length-row wide o cs row w e (All-head (FitsRow cs) row rows h), length-rows wide o cs rows w e (All-tail (FitsRow cs) row rows h), more)

many_rows : (len n w : ℕ) → 0 < w → len ≡ n * w → len / w ≡ n
many_rows len n w some e = let z : len ≡ n * w + 0 = omega (arith, e) in let none : 0 / w ≡ 0 = omega arith in ap (λ (k : ℕ). k / w) z ∙ mul-add-div_right some n 0 ∙ omega (arith, none)

pub rows_turned : Turned → HasWidth → (o p : Order) (cs : List Col) (rows : List Row) (w : ℕ) → 0 < w → o ≢ p → width_of cs ≡ Some w → All (FitsRow cs) rows → rows_text p cs rows ≡ turned_rows (fields_of cs) w (rows_text o cs rows)
rows_turned turned wide o p cs rows w some other e h =
    let n = many_rows (length (rows_text o cs rows)) (length rows) w some (length-rows wide o cs rows w e h) in
    rw n (pieces_turned turned wide o p cs rows w other e h)

-- the fields of columns are as wide as these
pub fields_wide : (cs : List Col) (w : ℕ) → width_of cs ≡ Some w → fields_width (fields_of cs) ≡ w
fields_wide [] w e = let z : Some 0 ≡ Some w = e in cc
fields_wide (c ∷ cs) w e =
    let a = width_parts (cell_width c.kind c.count) (width_of cs) w e in
    omega (arith, sum_by-cons (λ (f : Field). f.width) (field_of c) (fields_of cs), field_wide c a.0 a.2, fields_wide cs a.1 a.3, a.4)

-- ---- what is written

same_spans : (b : Bool) (p : Progress) (bytes : List ℕ) (spans : List (ℕ × ℕ)) → b ≡ false → cond b spans p.spans ≡ p.spans
same_spans b p bytes spans e = rw e refl

pub bytes_put : (o : Order) (cs : List Col) (p q : Progress) (rows : List Row) (bytes : List ℕ) → p.varies ≡ false → bytes ≡ rows_text o cs rows → q ≡ with_bytes p bytes → q ≡ with_rows o cs p rows
bytes_put o cs p q rows bytes none is e =
    e ∙ ap (with_bytes p) is ∙ sym (with_rows-after o cs p rows ∙ ap (λ (spans : List (ℕ × ℕ)). record { table = p.table ++ rows_text o cs rows; spans = spans; varies = p.varies }) (same_spans p.varies p bytes _ none))

pub turned_put : Turned → HasWidth → (o other : Order) (cs : List Col) (fs : List Field) (p q : Progress) (rows : List Row) (bytes : List ℕ) (w : ℕ) → 0 < w → o ≢ other → width_of cs ≡ Some w → All (FitsRow cs) rows
    → fs ≡ fields_of cs → p.varies ≡ false → bytes ≡ rows_text o cs rows → q ≡ with_bytes p (turned_rows fs w bytes) → q ≡ with_rows other cs p rows
turned_put turned wide o other cs fs p q rows bytes w some differ e h fields none is made =
    let text : turned_rows fs w bytes ≡ rows_text other cs rows = rw (fields, is) (sym (rows_turned turned wide o other cs rows w some differ e h)) in
    bytes_put other cs p q rows (turned_rows fs w bytes) none text made
