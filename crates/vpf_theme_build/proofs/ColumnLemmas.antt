-- The bytes that are built of a column are a file of its index.
use Rattle.std.proofs.Common.{◌≡◌, ℕ, ◌^◌, ◌<◌, ◌≤◌, true, List, [], ◌∷◌, length, map, zero, suc, refl, sym, ap, subst, arith}
use Rattle.std.specs.Prelude.{All}
use Rattle.std.specs.Cmp.{IsTotalOrder}
use Rattle.std.proofs.lemmas.Bool.Decides.{nat_tests}
use Rattle.std.proofs.lemmas.List.{length-map}
use Rattle.vpf_base.specs.Limits.{most_values, most_bytes}
use Rattle.vpf_base.specs.declared.orders.Order.{Order}
use Rattle.vpf_triplet.specs.declared.kinds.Kind.{Kind}
use Rattle.vpf_triplet.specs.declared.kinds.Count.TheVariants.{Fixed}
use Rattle.vpf_value.specs.Values.{Value}
use Rattle.vpf_value.specs.Inner.Fitting.{FitsCell}
use Rattle.vpf_head.specs.Head.{Col}
use Rattle.vpf_theme.specs.declared.layout.Form.{Form}
use Rattle.vpf_theme.specs.declared.layout.Layout.{Layout}
use Rattle.vpf_theme.specs.Layouts.{is_count}
use Rattle.vpf_theme.specs.Ordering.{value_cmp}
use Rattle.vpf_theme.specs.Spelling.{IsThematicIndex, layout_from}
use Rattle.vpf_theme_build.specs.Building.{CanIndex, index_for, layout_for}
use Rattle.vpf_theme_build.specs.Grouping.{entries_for, entry_for, values_of}
use Rattle.vpf_theme_build.specs.Text.{index_len, index_text, row_size_for}
use Rattle.vpf_theme_build.proofs.FieldLemmas.{scan_inside, scan_rises, values_len}
use Rattle.vpf_theme_build.proofs.SpelledLemmas.{AreSpelled, EachEntry, HaveWidths, IsWritten, index_long, index_stands}
use Rattle.vpf_theme_build.proofs.ValueLists.{Each, HasCell, cells_have, entries_for_rising, scan_some, values_each}

-- ---- the entries

each_from : (P : Value → Type 0) (cells : List Value) → All P cells → Each P cells
each_from P [] h = tt
each_from P (v ∷ cells) h = (h zero v (omega arith), each_from P cells (λ k d m. h (suc k) d (omega arith)))

each_entry : (l : Layout) (cells vs : List Value) → l.rows ≡ length cells → l.row_size ≡ row_size_for l.rows → length cells < 2 ^ 24 → Each (FitsCell l.kind (Fixed l.count)) vs → Each (HasCell cells) vs → EachEntry l (map (entry_for cells) vs)
each_entry l cells [] n size few f h = tt
each_entry l cells (v ∷ vs) n size few f h = (record { fits = f.0; some = scan_some 1 v cells h.0; rows = record { size = size; few = omega arith; inside = scan_inside 1 l.rows v cells (omega arith) (omega arith); rise = scan_rises 1 v cells } }, each_entry l cells vs n size few f.1 h.1)

entries_are : (l : Layout) (cells : List Value) → l.rows ≡ length cells → l.row_size ≡ row_size_for l.rows → length cells < 2 ^ 24 → All (FitsCell l.kind (Fixed l.count)) cells → EachEntry l (entries_for cells)
entries_are l cells n size few fits = each_entry l cells (values_of cells) n size few (values_each (FitsCell l.kind (Fixed l.count)) cells (each_from (FitsCell l.kind (Fixed l.count)) cells fits)) (values_each (HasCell cells) cells (cells_have cells))

-- ---- the index

count_few : (kind : Kind) (n : ℕ) → is_count kind n ≡ true → n ≤ most_values
count_few kind n h = grind (arith, nat_tests)

with_entries : Layout → ℕ → Layout
with_entries l n = record l { entries = n }

same_layout : (order : Order) (form : Form) (column : Col) (count : ℕ) (cells : List Value) → layout_from order (row_size_for (length cells)) (index_for form column count cells) ≡ layout_for order form column count cells
unfolding with_entries
same_layout order form column count cells = ap (with_entries (layout_from order (row_size_for (length cells)) (index_for form column count cells))) (length-map (values_of cells) (entry_for cells))

-- what is known of the index of a column that can be built
built_written : IsTotalOrder value_cmp → (order : Order) (form : Form) (column : Col) (count : ℕ) (cells : List Value) → CanIndex order form column count cells → IsWritten order (row_size_for (length cells)) (index_for form column count cells)
built_written o order form column count cells can =
    let l = layout_from order (row_size_for (length cells)) (index_for form column count cells) in
    let es = entries_for cells in
    let fits = rw can.fixed at can.fits in
    let len = length-map (values_of cells) (entry_for cells) in
    let small = subst (λ (k : Layout). index_len k es ≤ most_bytes) (sym (same_layout order form column count cells)) can.small in
    record {
      values = (can.indexed, can.counted);
      stored = record { sorted = refl; rows = omega (arith, can.few); entries = omega (arith, values_len cells, can.few, len); size = omega (arith, small); count = omega (arith, count_few column.kind count can.counted) };
      each = entries_are l cells refl refl can.few fits;
      rise = entries_for_rising o cells;
      small = omega (arith, small);
    }

pub built_stands : AreSpelled → HaveWidths → IsTotalOrder value_cmp → (order : Order) (form : Form) (column : Col) (count : ℕ) (cells : List Value) (table : List ℕ) → CanIndex order form column count cells → IsThematicIndex order (index_for form column count cells) (index_text (layout_for order form column count cells) table column.name (entries_for cells))
built_stands spelled wide o order form column count cells table can =
    let t = index_for form column count cells in
    let size = row_size_for (length cells) in
    let is = index_stands spelled wide order size t table column.name (built_written o order form column count cells can) in
    subst (λ (k : Layout). IsThematicIndex order t (index_text k table column.name (entries_for cells))) (same_layout order form column count cells) is

-- it has so many bytes as are counted before it is written
pub built_long : HaveWidths → IsTotalOrder value_cmp → (order : Order) (form : Form) (column : Col) (count : ℕ) (cells : List Value) (table : List ℕ) → CanIndex order form column count cells → length (index_text (layout_for order form column count cells) table column.name (entries_for cells)) ≡ index_len (layout_for order form column count cells) (entries_for cells)
built_long wide o order form column count cells table can =
    let t = index_for form column count cells in
    let size = row_size_for (length cells) in
    let is = index_long wide order size t table column.name (built_written o order form column count cells can) in
    subst (λ (k : Layout). length (index_text k table column.name (entries_for cells)) ≡ index_len k (entries_for cells)) (same_layout order form column count cells) is
