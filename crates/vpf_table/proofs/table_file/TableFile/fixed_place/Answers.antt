use Rattle.std.proofs.Common.{Some, sym, ap, ◌∙◌, arith}
use Rattle.vpf_base.specs.Limits.{most_rows}
use Rattle.vpf_table.specs.Grid.{Row}
use Rattle.vpf_table.specs.Reading.{rows_at}
use Rattle.vpf_table.specs.Walking.{row_of, rows_of}
use Rattle.vpf_table.proofs.CellOf.{is_ok_from}
use Rattle.vpf_table.proofs.FixedWidth.{row_stands}
use Rattle.vpf_table.proofs.table_file.TableFile.fixed_place.Goals as goal

pub overflow_mul-result : goal.overflow_mul-result
overflow_mul-result c =
    let t = c.self.inside in
    let rows = rows_of (rows_at most_rows t.header.value.order t.header.value.columns t.bytes.now t.start) in
    let fixed = rw (← c.self.view_is) at c.requires.fixed in
    let within = rw (← c.self.view_is) at c.requires.within in
    let s = row_stands c.fixed_cells.ensures most_rows t.header.value.order t.header.value.columns t.bytes.now t.start rows c.args.width c.args.k fixed c.self.invariant.read within in
    omega (arith, s.inside)

pub overflow_add-result : goal.overflow_add-result
overflow_add-result c =
    let t = c.self.inside in
    let rows = rows_of (rows_at most_rows t.header.value.order t.header.value.columns t.bytes.now t.start) in
    let fixed = rw (← c.self.view_is) at c.requires.fixed in
    let within = rw (← c.self.view_is) at c.requires.within in
    let s = row_stands c.fixed_cells.ensures most_rows t.header.value.order t.header.value.columns t.bytes.now t.start rows c.args.width c.args.k fixed c.self.invariant.read within in
    omega (arith, s.inside)

pub returns : goal.returns
returns c =
    let t = c.self.inside in
    let rows = rows_of (rows_at most_rows t.header.value.order t.header.value.columns t.bytes.now t.start) in
    let fixed = rw (← c.self.view_is) at c.requires.fixed in
    let within = rw (← c.self.view_is) at c.requires.within in
    let s = row_stands c.fixed_cells.ensures most_rows t.header.value.order t.header.value.columns t.bytes.now t.start rows c.args.width c.args.k fixed c.self.invariant.read within in
    rw (← c.self.view_is) record { inside = omega (arith, s.inside); read = is_ok_from _ _ s.read; item = s.item ∙ ap (λ (x : Row). Some x) (sym (ap row_of s.read)) }
