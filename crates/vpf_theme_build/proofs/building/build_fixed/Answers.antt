use Rattle.std.proofs.Common.{◌≡◌, ◌≤◌, true, length, map, Ok, sym, subst, ◌∙◌, arith}
use Rattle.std.specs.Prelude.{slice_index_or}
use Rattle.std.proofs.lemmas.Grind.{common_steps}
use Rattle.std.proofs.lemmas.List.{length-map}
use Rattle.vpf_base.specs.Limits.{most_bytes}
use Rattle.vpf_triplet.specs.declared.kinds.Count.TheVariants.{Fixed}
use Rattle.vpf_value.specs.Values.{Nothing}
use Rattle.vpf_head.specs.Head.{Col}
use Rattle.vpf_head.specs.Inner.Views.{col}
use Rattle.vpf_table.specs.Grid.{Row}
use Rattle.vpf_theme.specs.declared.layout.Layout.{Layout}
use Rattle.vpf_theme.specs.Findings.{cells_of}
use Rattle.vpf_theme.specs.Reading.{theme_of}
use Rattle.vpf_theme_build.specs.Grouping.{entries_for, entry_in}
use Rattle.vpf_theme_build.specs.Text.{index_len, index_text}
use Rattle.vpf_theme_build.specs.Building.{AgreeAt, AreRead, Builds, built_by, index_for, layout_for}
use Rattle.vpf_theme_build.proofs.FieldLemmas.{are_entries, groups_len}
use Rattle.vpf_theme_build.proofs.BuildLemmas.{agree_at, are_read, built_is, has_values, if_built, layout_is}
use Rattle.vpf_theme_build.specs.Inner.BuildLaws.{cells_fit, one_column}
use Rattle.vpf_theme_build.proofs.building.build_fixed.Goals as goal

pub overflow_cast-layout : goal.overflow_cast-layout
overflow_cast-layout c =
    let grid = c.args.table.now in
    let cells = cells_of grid c.args.column in
    let e = (rw c.deref.ensures.value at c.in_ok-groups.ensures.entries) ∙ c.in_ok-spots.ensures.entries in
    let g = groups_len c.in_ok-spots.spots.items c.in_ok-groups.groups.items cells e in
    let n = length-map grid.rows (λ (row : Row). slice_index_or row c.args.column Nothing) in
    let k : c.len-3.result ≡ length c.in_ok-groups.groups.items = grind (arith, common_steps) in
    omega (arith, g.1, n, k, c.len.ensures.value, c.len.ensures.most)

pub finish-requires-clause-values : goal.finish-requires-clause-values
finish-requires-clause-values c =
    let column = col c.at-found.result.now in
    let is = rw c.header-header.ensures at c.at-found.ensures in
    let can = c.requires.1 column is in
    has_values c.args.table.now.head c.args.column c.args.count column (rw c.header-header.ensures at c.len-columns.ensures.sound) is can.0 can.1

pub finish-requires-clause-fits : goal.finish-requires-clause-fits
finish-requires-clause-fits c =
    let column = col c.at-found.result.now in
    let is = rw c.header-header.ensures at c.at-found.ensures in
    let can = c.requires.1 column is in
    let fits = c.in_ok-spots.ensures.fits column is in
    rw c.deref-2.ensures.value (rw can.0 at fits)

pub finish-requires-clause-few : goal.finish-requires-clause-few
finish-requires-clause-few c =
    let grid = c.args.table.now in
    let cells = cells_of grid c.args.column in
    let e = (rw c.deref.ensures.value at c.in_ok-groups.ensures.entries) ∙ c.in_ok-spots.ensures.entries in
    let g = groups_len c.in_ok-spots.spots.items c.in_ok-groups.groups.items cells e in
    let n = length-map grid.rows (λ (row : Row). slice_index_or row c.args.column Nothing) in
    rw c.deref-3.ensures.value (omega (arith, g.1, n, c.len.ensures.value, c.len.ensures.most))

pub finish-requires-clause-rows : goal.finish-requires-clause-rows
finish-requires-clause-rows c =
    let grid = c.args.table.now in
    let cells = cells_of grid c.args.column in
    let e = (rw c.deref.ensures.value at c.in_ok-groups.ensures.entries) ∙ c.in_ok-spots.ensures.entries in
    let n = length-map grid.rows (λ (row : Row). slice_index_or row c.args.column Nothing) in
    let l : Layout = record { order = c.order.result; form = c.args.form; kind = c.at-found.result.now.kind; count = c.args.count; row_size = c.row_size_for.result; rows = c.len-2.result; entries = c.len-3.result; sorted = true } in
    let same : c.len.result ≡ c.len-2.result = omega (arith, c.len.ensures.value, c.len-2.ensures.value) in
    let size = rw same at c.row_size_for.ensures in
    rw (c.deref-2.ensures.value, c.deref-3.ensures.value) (are_entries l c.in_ok-spots.spots.items c.in_ok-groups.groups.items cells e (omega (arith, n, c.len-2.ensures.value)) (omega (arith, c.len-2.ensures.most)) size)

pub returns-clause-bytes : goal.returns-clause-bytes
returns-clause-bytes c = λ c' is'.
    let grid = c.args.table.now in
    let cells = cells_of grid c.args.column in
    let column = col c.at-found.result.now in
    let is = rw c.header-header.ensures at c.at-found.ensures in
    let can = c.requires.1 column is in
    let e = (rw c.deref.ensures.value at c.in_ok-groups.ensures.entries) ∙ c.in_ok-spots.ensures.entries in
    let g = groups_len c.in_ok-spots.spots.items c.in_ok-groups.groups.items cells e in
    let n = length-map grid.rows (λ (row : Row). slice_index_or row c.args.column Nothing) in
    let k : c.len-3.result ≡ length c.in_ok-groups.groups.items = grind (arith, common_steps) in
    let rows : length cells ≡ c.len.result = omega (arith, n, c.len.ensures.value) in
    let rows2 : length cells ≡ c.len-2.result = omega (arith, n, c.len-2.ensures.value) in
    let size = rw (← rows) at c.row_size_for.ensures in
    let order = c.order.ensures in
    let o = rw c.header-header.ensures at order in
    let l = layout_is grid.head.order c.order.result c.args.form column c.args.count cells c.row_size_for.result c.len-2.result c.len-3.result (sym o) (sym size) rows2 (sym g.0 ∙ sym k) in
    let f = rw (c.deref-2.ensures.value, c.deref-3.ensures.value) at c.finish.ensures in
    let b = built_is grid.head.order c.args.table_name.now c.args.form column cells c.args.count _ (map (entry_in c.in_ok-spots.spots.items) c.in_ok-groups.groups.items) can.1 l e in
    let same = one_column grid.head.columns c.args.column column c' is is' in
    subst (λ (x : Col). Builds (λ v. v.items) c.finish.result (built_by grid.head.order c.args.table_name.now c.args.form x cells (Fixed c.args.count))) same (rw b f)

-- the bytes that are not too many are read as the index
read : (c : goal.After-drop-spots-2) → index_len (layout_for c.args.table.now.head.order c.args.form (col c.at-found.result.now) c.args.count (cells_of c.args.table.now c.args.column)) (entries_for (cells_of c.args.table.now c.args.column)) ≤ most_bytes
    → theme_of c.args.table.now.head.order (index_text (layout_for c.args.table.now.head.order c.args.form (col c.at-found.result.now) c.args.count (cells_of c.args.table.now c.args.column)) c.args.table_name.now (col c.at-found.result.now).name (entries_for (cells_of c.args.table.now c.args.column))) ≡ Ok (index_for c.args.form (col c.at-found.result.now) c.args.count (cells_of c.args.table.now c.args.column))
read c small =
    let grid = c.args.table.now in
    let column = col c.at-found.result.now in
    let is = rw c.header-header.ensures at c.at-found.ensures in
    let can = c.requires.1 column is in
    let values = has_values grid.head c.args.column c.args.count column (rw c.header-header.ensures at c.len-columns.ensures.sound) is can.0 can.1 in
    let fits = cells_fit grid c.args.column column (rw c.rows-rows.ensures.rows at c.rows-rows.ensures.fits) is in
    let n = length-map grid.rows (λ (row : Row). slice_index_or row c.args.column Nothing) in
    c.built_indexes_are_read.ensures grid.head.order c.args.form column c.args.count (cells_of grid c.args.column) c.args.table_name.now (record { fixed = can.0; indexed = can.1; counted = values.1; fits = fits; few = omega (arith, n, c.len.ensures.value, c.len.ensures.most); small = small })

pub returns-clause-opened : goal.returns-clause-opened
returns-clause-opened c =
    let grid = c.args.table.now in
    let column = col c.at-found.result.now in
    let is = rw c.header-header.ensures at c.at-found.ensures in
    let can = c.requires.1 column is in
    if_built (λ v. v.items) (AreRead grid c.args.column c.args.form) c.finish.result grid.head.order c.args.table_name.now c.args.form column (cells_of grid c.args.column) c.args.count can.1 (returns-clause-bytes c column is) (λ small. are_read grid c.args.column c.args.form column c.args.count _ is can.0 (read c small))

pub returns-clause-agrees : goal.returns-clause-agrees
returns-clause-agrees c =
    let grid = c.args.table.now in
    let column = col c.at-found.result.now in
    let is = rw c.header-header.ensures at c.at-found.ensures in
    let can = c.requires.1 column is in
    let fits = cells_fit grid c.args.column column (rw c.rows-rows.ensures.rows at c.rows-rows.ensures.fits) is in
    let agrees = c.built_indexes_agree.ensures c.args.form column c.args.count (cells_of grid c.args.column) can.0 can.1 fits in
    if_built (λ v. v.items) (AgreeAt grid c.args.column) c.finish.result grid.head.order c.args.table_name.now c.args.form column (cells_of grid c.args.column) c.args.count can.1 (returns-clause-bytes c column is) (λ small. agree_at grid c.args.column c.args.form column c.args.count _ is (read c small) agrees)
