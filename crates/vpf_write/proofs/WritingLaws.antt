-- What is written in either order, and of rows that are joined.
use Rattle.std.specs.Prelude.{[], All}
use Rattle.std.proofs.Common.{◌≡◌, ℕ, suc, ◌+◌, ◌*◌, ◌/◌, ◌%◌, List, ◌∷◌, length, Result, Ok, refl, sym, ap, ◌∙◌, arith}
use Rattle.std.proofs.Math.Nat.{mul-div_cancel, mul-mod_left}
use Rattle.std.proofs.lemmas.List.{length-append, take_at, drop_at}
use Rattle.std.proofs.lemmas.List.Elements.{All-head, All-tail}
use Rattle.vpf_base.specs.declared.orders.Order.{Order}
use Rattle.vpf_triplet.specs.declared.places.Place.{Place}
use Rattle.vpf_value.specs.Canonical.{spelled}
use Rattle.vpf_head.specs.Canonical.{canonical_text}
use Rattle.vpf_head.specs.Head.{Head, Col, varies_in}
use Rattle.vpf_table.specs.Grid.{Row, Grid}
use Rattle.vpf_table.specs.Canonical.{FitsRow, IsWritable, row_text, rows_text, canonical_table, canonical_index, in_order}
use Rattle.vpf_write.specs.Inner.Cuts.{cut, joined, grid_of_cells}
use Rattle.vpf_write.specs.Writing.{first_limit, limit_by}
use Rattle.vpf_write.proofs.RowTexts.{fits_len}
use Rattle.vpf_write.proofs.WholeTables.{length-header, length-table}
use Rattle.vpf_write.proofs.WriteLimits.{some_columns}
use Rattle.vpf_table.specs.Inner.OrderLaws.{EitherOrder}
use Rattle.vpf_table.specs.Inner.CanonicalLaws.{SoundInOrder}

pub same_table : (g h : Grid) (r : Result Grid Place) → r ≡ Ok g → r ≡ Ok h → g ≡ h
same_table g h r e f = let k : Ok g ≡ Ok h = sym e ∙ f in cc

-- ---- either order

length-row_either : EitherOrder → (o p : Order) (cs : List Col) (row : Row) → length (row_text o cs row) ≡ length (row_text p cs row)
unfolding row_text
length-row_either either o p [] row = refl
length-row_either either o p (c ∷ cs) [] = refl
length-row_either either o p (c ∷ cs) (v ∷ vs) =
    omega (arith, length-append (spelled o c.kind c.count v) (row_text o cs vs), length-append (spelled p c.kind c.count v) (row_text p cs vs), either o p c.kind c.count v, length-row_either either o p cs vs)

length-rows_either : EitherOrder → (o p : Order) (cs : List Col) (rows : List Row) → length (rows_text o cs rows) ≡ length (rows_text p cs rows)
unfolding rows_text
length-rows_either either o p cs [] = refl
length-rows_either either o p cs (row ∷ rows) =
    omega (arith, length-append (row_text o cs row) (rows_text o cs rows), length-append (row_text p cs row) (rows_text p cs rows), length-row_either either o p cs row, length-rows_either either o p cs rows)

-- a header's text is as long in either order
abbrev pub AsLong : Type 0
AsLong = (h : Head) (order : Order) → length (canonical_text (record h { order = order })) ≡ length (canonical_text h)

pub limits_either : EitherOrder → AsLong → (g : Grid) (order : Order) → first_limit (in_order order g) ≡ first_limit g
limits_either either long g order =
    let text = long g.head order in
    let size : length (canonical_table (in_order order g)) ≡ length (canonical_table g) = omega (arith, length-table (in_order order g), length-table g, length-header (in_order order g).head, length-header g.head, text, length-rows_either either order g.head.order g.head.columns g.rows) in
    let v = varies_in g.head.columns in
    ap (λ (n : ℕ). limit_by n (length g.rows) (length (canonical_table (in_order order g))) v) text ∙ ap (λ (n : ℕ). limit_by (length (canonical_text g.head)) (length g.rows) n v) size

back_again : (g h : Grid) (order : Order) → in_order order g ≡ h → in_order g.head.order h ≡ g
back_again g h order e = ap (in_order g.head.order) (sym e)

pub twice_table : (g h : Grid) (order : Order) → in_order order g ≡ h → canonical_table (in_order g.head.order h) ≡ canonical_table g
twice_table g h order e = ap canonical_table (back_again g h order e)

pub twice_index : (g h : Grid) (order : Order) → in_order order g ≡ h → canonical_index (in_order g.head.order h) ≡ canonical_index g
twice_index g h order e = ap canonical_index (back_again g h order e)

pub writable_in_order : SoundInOrder → (g : Grid) (order : Order) → IsWritable g → IsWritable (in_order order g)
writable_in_order sound g order w = record { sound = sound g.head order w.sound; fits = w.fits }

-- ---- rows that are joined are cut again

times_suc : (n w : ℕ) → w + n * w ≡ suc n * w
times_suc n w = grind arith

length-joined : (cs : List Col) (rows : List Row) → All (FitsRow cs) rows → length (joined rows) ≡ length rows * length cs
length-joined cs [] h = omega arith
length-joined cs (row ∷ rows) h =
    let first = fits_len cs row (All-head (FitsRow cs) row rows h) in
    let others = length-joined cs rows (All-tail (FitsRow cs) row rows h) in
    length-append row (joined rows) ∙ rw (← first, others) (times_suc (length rows) (length cs))

cut_joined : (cs : List Col) (rows : List Row) → All (FitsRow cs) rows → cut (length cs) (length rows) (joined rows) ≡ rows
unfolding cut
cut_joined cs [] h = refl
cut_joined cs (row ∷ rows) h =
    let first = sym (fits_len cs row (All-head (FitsRow cs) row rows h)) in
    rw (take_at row (joined rows) (length cs) first, drop_at row (joined rows) (length cs) first, cut_joined cs rows (All-tail (FitsRow cs) row rows h)) refl

pub joined_whole : (g : Grid) → IsWritable g → length (joined g.rows) % length g.head.columns ≡ 0
joined_whole g w = rw (length-joined g.head.columns g.rows w.fits) (mul-mod_left (length g.rows) (length g.head.columns))

pub joined_rows : (g : Grid) → IsWritable g → grid_of_cells g.head (joined g.rows) ≡ g
joined_rows g w =
    let many : length (joined g.rows) / length g.head.columns ≡ length g.rows = rw (length-joined g.head.columns g.rows w.fits) (mul-div_cancel (length g.rows) (some_columns g.head w.sound)) in
    rw (many, cut_joined g.head.columns g.rows w.fits) refl
