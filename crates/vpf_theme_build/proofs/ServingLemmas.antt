-- The index that is built of a column of a table agrees with it.
use Rattle.std.proofs.Common.{◌≡◌, ℕ, ◌≤◌, Bool, true, false, List, length, Some, Ok, refl, subst, arith}
use Rattle.std.specs.Prelude.{All, nat_le, slice_get, slice_index_or}
use Rattle.std.specs.Cmp.{IsTotalOrder}
use Rattle.std.proofs.lemmas.List.{length-map}
use Rattle.vpf_base.specs.Limits.{most_rows, most_bytes}
use Rattle.vpf_base.specs.Bytes.{IsBytes}
use Rattle.vpf_base.specs.declared.orders.Order.{Order}
use Rattle.vpf_triplet.specs.declared.kinds.Count.{Count}
use Rattle.vpf_triplet.specs.declared.kinds.Count.TheVariants.{Fixed, Star}
use Rattle.vpf_value.specs.Values.{Value, Nothing}
use Rattle.vpf_value.specs.Inner.Fitting.{FitsCell}
use Rattle.vpf_head.specs.Head.{Col}
use Rattle.vpf_table.specs.Canonical.{IsWritable, in_order}
use Rattle.vpf_table.specs.Grid.{Grid, Row}
use Rattle.vpf_table.specs.Reading.{table_of}
use Rattle.vpf_table.specs.Spelling.{IsTable}
use Rattle.vpf_theme.specs.declared.layout.Form.{Form}
use Rattle.vpf_theme.specs.Layouts.{is_indexed}
use Rattle.vpf_theme.specs.Agreeing.{AgreesAt, AgreesWithColumn, ServesColumn}
use Rattle.vpf_theme.specs.Findings.{cells_of}
use Rattle.vpf_theme.specs.Ordering.{value_cmp}
use Rattle.vpf_theme.specs.Reading.{theme_of}
use Rattle.vpf_theme_build.specs.Building.{BuiltIndexesServe, CanIndex, built_by, index_for, layout_for}
use Rattle.vpf_theme_build.specs.Grouping.{entries_for}
use Rattle.vpf_theme_build.specs.Text.{index_len, index_text}
use Rattle.vpf_theme_build.proofs.BuildLemmas.{has_values, limited_ok}
use Rattle.vpf_theme_build.specs.Inner.BuildLaws.{cells_fit, one_column}
use Rattle.vpf_theme_build.proofs.ColumnLemmas.{built_long}
use Rattle.vpf_theme_build.proofs.SpelledLemmas.{HaveWidths}

-- the laws that are used
pub record Laws : Type 0 where
  pub wide : HaveWidths
  pub total : IsTotalOrder value_cmp
  pub agree : (form : Form) (column : Col) (count : ℕ) (cells : List Value) → column.count ≡ Fixed count → is_indexed column.kind ≡ true → All (FitsCell column.kind column.count) cells → AgreesWithColumn (index_for form column count cells) column cells
  pub read : (order : Order) (form : Form) (column : Col) (count : ℕ) (cells : List Value) (table : List ℕ) → CanIndex order form column count cells → theme_of order (index_text (layout_for order form column count cells) table column.name (entries_for cells)) ≡ Ok (index_for form column count cells)
  pub spelled : (bytes : List ℕ) (grid : Grid) → IsBytes bytes → table_of bytes ≡ Ok grid → IsTable grid bytes
  pub writable : (bytes : List ℕ) (grid : Grid) (order : Order) → IsBytes bytes → table_of bytes ≡ Ok grid → IsWritable (in_order order grid)

can_index : (grid : Grid) (c count : ℕ) (column : Col) (form : Form) → IsWritable (in_order grid.head.order grid) → length grid.rows ≤ most_rows → slice_get grid.head.columns c ≡ Some column → column.count ≡ Fixed count → is_indexed column.kind ≡ true
    → index_len (layout_for grid.head.order form column count (cells_of grid c)) (entries_for (cells_of grid c)) ≤ most_bytes → CanIndex grid.head.order form column count (cells_of grid c)
can_index grid c count column form w rows is fixed indexed small =
    let values = has_values (in_order grid.head.order grid).head c count column w.sound is fixed indexed in
    let len = length-map grid.rows (λ (row : Row). slice_index_or row c Nothing) in
    record {
      fixed = fixed;
      indexed = indexed;
      counted = values.1;
      fits = cells_fit (in_order grid.head.order grid) c column w.fits is;
      few = omega (arith, rows, len);
      small = small;
    }

-- bytes that are the index of a column that can be built
serves : Laws → (grid : Grid) (c count : ℕ) (column : Col) (form : Form) (table index : List ℕ) → slice_get grid.head.columns c ≡ Some column → CanIndex grid.head.order form column count (cells_of grid c)
    → index_text (layout_for grid.head.order form column count (cells_of grid c)) table column.name (entries_for (cells_of grid c)) ≡ index → ServesColumn grid c index
serves laws grid c count column form table index is can e =
    let cells = cells_of grid c in
    let read = laws.read grid.head.order form column count cells table can in
    let agrees = laws.agree form column count cells can.fixed can.indexed can.fits in
    let at : AgreesAt (index_for form column count cells) grid c = λ other there. subst (λ (k : Col). AgreesWithColumn (index_for form column count cells) k cells) (one_column grid.head.columns c column other is there) agrees in
    (index_for form column count cells, subst (λ (b : List ℕ). theme_of grid.head.order b ≡ Ok (index_for form column count cells)) e read, at)

serve_indexed : Laws → (grid : Grid) (c count : ℕ) (column : Col) (form : Form) (table index : List ℕ) (indexed : Bool) → IsWritable (in_order grid.head.order grid) → length grid.rows ≤ most_rows → slice_get grid.head.columns c ≡ Some column → column.count ≡ Fixed count
    → is_indexed column.kind ≡ indexed → built_by grid.head.order table form column (cells_of grid c) (Fixed count) ≡ Ok index → ServesColumn grid c index × (length index ≤ most_bytes)
serve_indexed laws grid c count column form table index true w rows is fixed indexed built =
    let cells = cells_of grid c in
    let l = layout_for grid.head.order form column count cells in
    let text = index_text l table column.name (entries_for cells) in
    let b = rw indexed at built in
    let k = limited_ok (nat_le (index_len l (entries_for cells)) most_bytes) (index_len l (entries_for cells)) text index refl b in
    let can = can_index grid c count column form w rows is fixed indexed k.0 in
    let long = built_long laws.wide laws.total grid.head.order form column count cells table can in
    (serves laws grid c count column form table index is can k.1, subst (λ (b : List ℕ). length b ≤ most_bytes) k.1 (omega (arith, long, k.0)))
serve_indexed laws grid c count column form table index false w rows is fixed indexed built = let b = rw indexed at built in absurd (cc b)

serve_counted : Laws → (grid : Grid) (c : ℕ) (column : Col) (form : Form) (table index : List ℕ) (count : Count) → IsWritable (in_order grid.head.order grid) → length grid.rows ≤ most_rows → slice_get grid.head.columns c ≡ Some column → column.count ≡ count
    → built_by grid.head.order table form column (cells_of grid c) count ≡ Ok index → ServesColumn grid c index × (length index ≤ most_bytes)
serve_counted laws grid c column form table index (Fixed n) w rows is fixed built = serve_indexed laws grid c n column form table index (is_indexed column.kind) w rows is fixed refl built
serve_counted laws grid c column form table index Star w rows is fixed built = absurd (cc built)

pub built_serve : Laws → BuiltIndexesServe
built_serve laws bytes grid c column form table index are read is built =
    serve_counted laws grid c column form table index column.count (laws.writable bytes grid grid.head.order are read) (laws.spelled bytes grid are read).most is refl built
