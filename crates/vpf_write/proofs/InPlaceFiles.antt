-- A file of rows of one width becomes the table in the other order where it lies.
use Rattle.std.specs.Prelude.{All}
use Rattle.std.specs.Option.{is_some}
use Rattle.std.proofs.Common.{◌≡◌, ◌≢◌, ℕ, ◌+◌, ◌<◌, ◌≤◌, false, List, ◌++◌, length, drop, Option, Some, None, refl, sym, ap, ◌∙◌, arith}
use Rattle.std.proofs.lemmas.List.{length-append, drop_at}
use Rattle.vpf_base.specs.declared.orders.Order.{Order}
use Rattle.vpf_triplet.specs.declared.places.Part.{Part}
use Rattle.vpf_head.specs.Canonical.{canonical_text, canonical_header}
use Rattle.vpf_head.specs.Head.{Col, varies_in}
use Rattle.vpf_table.specs.declared.limit.Limit.{Limit}
use Rattle.vpf_write.specs.declared.turning.Field.{Field}
use Rattle.vpf_table.specs.Grid.{Row, Grid}
use Rattle.vpf_table.specs.Spelling.{IsRows, IsTable}
use Rattle.vpf_table.specs.Canonical.{FitsRow, rows_text, canonical_table, canonical_index, in_order}
use Rattle.vpf_write.specs.Inner.Turning.{fields_of, turned_rows}
use Rattle.vpf_table.specs.Inner.Widths.{width_of}
use Rattle.vpf_write.specs.Writing.{limit_by, first_limit}
use Rattle.vpf_write.proofs.FixedRows.{Turned, HasWidth, rows_turned, length-rows}
use Rattle.vpf_write.proofs.WholeTables.{told_limit, length-table}

pub none_is : {X : Type 0} (x : Option X) → is_some x ≡ false → x ≡ None
none_is None e = refl
none_is (Some x) e = absurd cc

-- the header in place of the file's own, and behind it the rows with their words turned round
pub record IsTurned (bytes front : List ℕ) (fields : List Field) (w : ℕ) (g : Grid) : Type 0 where
  pub room : length front ≤ length bytes
  pub table : front ++ turned_rows fields w (drop (length front) bytes) ≡ canonical_table g
  pub index : canonical_index g ≡ None

-- rows of one width have no spelling but the canonical one
abbrev pub OneSpelling : Type 0
OneSpelling = (order : Order) (columns : List Col) (rows : List Row) (bytes : List ℕ) (width : ℕ) → width_of columns ≡ Some width → IsRows order columns rows bytes → bytes ≡ rows_text order columns rows

pub in_place : OneSpelling → Turned → HasWidth → (g : Grid) (order : Order) (bytes rows front : List ℕ) (fields : List Field) (w : ℕ) → IsTable g bytes → 0 < w → width_of g.head.columns ≡ Some w → varies_in g.head.columns ≡ false
    → rows ≡ rows_text g.head.order g.head.columns g.rows → All (FitsRow g.head.columns) g.rows → g.head.order ≢ order → front ≡ canonical_header (in_order order g).head → fields ≡ fields_of g.head.columns → length front + length rows ≡ length bytes
    → IsTurned bytes front fields w (in_order order g)
in_place alone turned wide g order bytes rows front fields w t some e alike rows_are fits differ front_is fields_are long =
    let cs = g.head.columns in
    let rest : t.rest ≡ rows = alone g.head.order cs g.rows t.rest w e t.rows ∙ sym rows_are in
    let size : length t.front ≡ length front = omega (arith, ap length t.parts, length-append t.front t.rest, ap length rest, long) in
    let behind : drop (length front) bytes ≡ rows = ap (drop (length front)) (t.parts) ∙ drop_at t.front t.rest (length front) size ∙ rest in
    let text = rows_turned turned wide g.head.order order cs g.rows w some differ e fits in
    let index : canonical_index (in_order order g) ≡ None = rw alike refl in
    record { room = omega (arith, long); table = rw (behind, rows_are, fields_are, front_is) (ap (λ (xs : List ℕ). canonical_header (in_order order g).head ++ xs) (sym text)); index = index }

-- the header in the other order and the rows are as long as the table
pub turned_size : HasWidth → (g : Grid) (order : Order) (rows : List ℕ) (w : ℕ) → width_of g.head.columns ≡ Some w → rows ≡ rows_text g.head.order g.head.columns g.rows → All (FitsRow g.head.columns) g.rows → length (canonical_header (in_order order g).head) + length rows ≡ length (canonical_table (in_order order g))
turned_size wide g order rows w e is fits =
    let cs = g.head.columns in
    let len : length rows ≡ length (rows_text order cs g.rows) = ap length is ∙ length-rows wide g.head.order cs g.rows w e fits ∙ sym (length-rows wide order cs g.rows w e fits) in
    omega (arith, length-table (in_order order g), len)

-- what is told of limits is the table's own
pub told_first : HasWidth → (g : Grid) (order : Order) (rows : List ℕ) (w many : ℕ) (told : Option (Part × Limit)) → width_of g.head.columns ≡ Some w → rows ≡ rows_text g.head.order g.head.columns g.rows → All (FitsRow g.head.columns) g.rows → many ≡ length g.rows
    → told ≡ limit_by (length (canonical_text (in_order order g).head)) many (length (canonical_header (in_order order g).head) + length rows) (varies_in g.head.columns) → first_limit (in_order order g) ≡ told
told_first wide g order rows w many told e is fits count told_is =
    let size = turned_size wide g order rows w e is fits in
    told_limit (in_order order g) many (length rows) told told count (record { same = λ text n varies. ap (λ (k : ℕ). limit_by text n k varies) size }) told_is refl
