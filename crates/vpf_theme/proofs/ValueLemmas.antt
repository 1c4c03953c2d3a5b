-- Values of entries that are whole.
use Rattle.std.proofs.Common.{◌≡◌, ℕ, ◌≤◌, List, length, drop, Some, Err, arith, length-drop}
use Rattle.vpf_base.specs.declared.orders.Order.{Order}
use Rattle.vpf_triplet.specs.declared.kinds.Kind.{Kind}
use Rattle.vpf_triplet.specs.declared.kinds.Count.{Count}
use Rattle.vpf_triplet.specs.declared.kinds.Count.TheVariants.{Fixed}
use Rattle.vpf_triplet.specs.declared.places.Code.{Code}
use Rattle.vpf_value.specs.Widths.{cell_width, TakesWidth}
use Rattle.vpf_value.specs.Reading.{cell_from}
use Rattle.vpf_theme.specs.declared.layout.Layout.{Layout}
use Rattle.vpf_theme.specs.Layouts.{HasValues, entry_start, value_bytes}
use Rattle.vpf_theme.specs.Entries.{IsWhole}
use Rattle.vpf_theme.specs.Inner.ValueLaws.{indexed_width}

-- the law of cells of one width
abbrev pub FixedCells : Type 0
FixedCells = (order : Order) (kind : Kind) (count : Count) (bytes : List ℕ) (width : ℕ) → cell_width kind count ≡ Some width → TakesWidth width bytes (cell_from order kind count bytes)

pub never_cut : (l : Layout) (bytes : List ℕ) (i : ℕ) (code : Code) → FixedCells → HasValues l → IsWhole l bytes i → cell_from l.order l.kind (Fixed l.count) (drop (entry_start l i) bytes) ≡ Err code → ⊥
never_cut l bytes i code laws values whole is =
    let width = laws l.order l.kind (Fixed l.count) (drop (entry_start l i) bytes) (value_bytes l) (indexed_width l.kind l.count values.0) in
    let room : value_bytes l ≤ length (drop (entry_start l i) bytes) = omega (arith, length-drop (entry_start l i) bytes, whole) in
    let ok = width.whole room in
    let e = ok.1 in
    cc (e, is)
