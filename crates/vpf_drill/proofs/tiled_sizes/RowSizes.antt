-- How long rows of numbers and ids are, and indexes.
use Rattle.std.proofs.Common.{[], ◌≡◌, ◌≤◌, ℕ, ◌+◌, ◌*◌, true, List, ◌∷◌, ◌++◌, length, refl, arith, length-append}
use Rattle.std.specs.List.{AllByRecursion}
use Rattle.std.specs.Int.{w16, w32, cast_unsigned}
use Rattle.vpf_triplet.specs.declared.kinds.Kind.{Kind}
use Rattle.vpf_triplet.specs.declared.kinds.Kind.TheVariants as kinds
use Rattle.vpf_triplet.specs.declared.kinds.Count.{Count}
use Rattle.vpf_base.specs.declared.orders.Order.{Order}
use Rattle.vpf_triplet.specs.Canonical.{least}
use Rattle.vpf_base.specs.Numbers.{number}
use Rattle.vpf_triplet.specs.Inner.CanonicalLaws.{bytes_few, length-canonical}
use Rattle.vpf_base.proofs.NumberLemmas.{length-number}
use Rattle.vpf_value.specs.Canonical.{spelled, spelled_id, spelled_number}
use Rattle.vpf_value.specs.Values.{Value, NumberOf, TripletOf}
use Rattle.vpf_value.specs.Inner.NumberLaws.{length-number16}
use Rattle.vpf_head.specs.Head.{Col, names_rows}
use Rattle.vpf_varindex.specs.RowIndex.{entries_text, row_index}
use Rattle.vpf_write.specs.Writing.{index_size}
use Rattle.vpf_table.specs.Canonical.{row_text, rows_text, spans_from}
use Rattle.vpf_table.specs.Grid.{Row}

-- ---- cells

short_few : (o : Order) (v : Value) → length (spelled_number o w16 v) ≤ 13
short_few o (NumberOf n) = let e = length-number16 o (cast_unsigned w16 n) in omega (arith, e)
short_few o v = omega arith

long_few : (o : Order) (v : Value) → length (spelled_number o w32 v) ≤ 13
long_few o (NumberOf n) = let e = length-number o (cast_unsigned w32 n) in omega (arith, e)
long_few o v = omega arith

id_few : (o : Order) (v : Value) → length (spelled_id o v) ≤ 13
id_few o (TripletOf t) = omega (arith, length-canonical o t, bytes_few (least t.id), bytes_few (least t.tile), bytes_few (least t.ext))
id_few o v = omega arith

-- a cell that can name a row has at most 13 bytes
pub cell_few : (o : Order) (kind : Kind) (count : Count) (v : Value) → names_rows kind ≡ true → length (spelled o kind count v) ≤ 13
cell_few o kinds.S count v h = short_few o v
cell_few o kinds.I count v h = long_few o v
cell_few o kinds.K count v h = id_few o v
cell_few o kind count v h = absurd cc

-- ---- rows

-- a row of such cells
pub row_few : (o : Order) (columns : List Col) (row : Row) → AllByRecursion (λ (c : Col). names_rows c.kind ≡ true) columns
    → length (row_text o columns row) ≤ 13 * length columns
unfolding row_text
row_few o [] row h = omega arith
row_few o (c ∷ columns) [] h = omega arith
row_few o (c ∷ columns) (v ∷ row) h =
    let e = length-append (spelled o c.kind c.count v) (row_text o columns row) in
    let here = cell_few o c.kind c.count v h.0 in
    let rest = row_few o columns row h.1 in
    omega (arith, e, here, rest)

-- rows of at most 104 bytes
pub rows_few : (o : Order) (columns : List Col) (rows : List Row) → AllByRecursion (λ row. length (row_text o columns row) ≤ 104) rows
    → length (rows_text o columns rows) ≤ 104 * length rows
unfolding rows_text
rows_few o columns [] h = omega arith
rows_few o columns (row ∷ rows) h =
    let e = length-append (row_text o columns row) (rows_text o columns rows) in
    let here : length (row_text o columns row) ≤ 104 = h.0 in
    let rest = rows_few o columns rows h.1 in
    omega (arith, e, here, rest)

-- ---- indexes

-- a span for each row
pub spans_many : (o : Order) (columns : List Col) (at : ℕ) (rows : List Row) → length (spans_from o columns at rows) ≡ length rows
unfolding spans_from
spans_many o columns at [] = refl
spans_many o columns at (row ∷ rows) = let e = spans_many o columns (at + length (row_text o columns row)) rows in omega (arith, e)

entries_long : (o : Order) (spans : List (ℕ × ℕ)) → length (entries_text o spans) ≡ 8 * length spans
unfolding entries_text
entries_long o [] = omega arith
entries_long o (s ∷ spans) =
    let rest = entries_long o spans in
    let a = length-append (number o w32 s.0) (number o w32 s.1 ++ entries_text o spans) in
    let b = length-append (number o w32 s.1) (entries_text o spans) in
    omega (arith, rest, a, b, length-number o s.0, length-number o s.1)

-- 8 bytes, and 8 for each row
pub index_long : (o : Order) (second : ℕ) (spans : List (ℕ × ℕ)) → length (row_index o second spans) ≡ index_size (length spans)
index_long o second spans =
    let a = length-append (number o w32 (length spans)) (number o w32 second ++ entries_text o spans) in
    let b = length-append (number o w32 second) (entries_text o spans) in
    omega (arith, entries_long o spans, a, b, length-number o (length spans), length-number o second)
