use Rattle.std.proofs.Common.{◌+◌, ◌-◌, ◌∙◌, length, refl, ap, arith}
use Rattle.vpf_base.specs.Limits.{most_rows}
use Rattle.vpf_table.specs.Grid.{Grid}
use Rattle.vpf_table.specs.Reading.{rows_at}
use Rattle.vpf_table.specs.Walking.{rows_of}
use Rattle.vpf_table.specs.Opening.{spans_at}
use Rattle.vpf_table.proofs.CellOf.{is_ok_from}
use Rattle.vpf_table.proofs.Owning.{spans_are}
use Rattle.vpf_table.proofs.SpanLemmas.{length-spans, span_row, by_span}
use Rattle.vpf_table.proofs.table_file.TableFile.indexed_place.Goals as goal

pub overflow_add-k : goal.overflow_add-k
overflow_add-k c =
    let t = c.self.inside in
    let rows = rows_of (rows_at most_rows t.header.value.order t.header.value.columns t.bytes.now t.start) in
    let g : Grid = record { head = t.header.value; rows = rows } in
    let own = (rw (← c.self.view_is) at c.requires.own) ∙ spans_are t.bytes.now g t.start c.self.invariant.begun in
    let within = rw (← c.self.view_is) at c.requires.within in
    let many = length-spans (length rows) t.header.value.order t.header.value.columns t.bytes.now t.start in
    omega (arith, within, ap length own, many)

pub entry-offset-requires-clause-last : goal.entry-offset-requires-clause-last
entry-offset-requires-clause-last c =
    let t = c.self.inside in
    let rows = rows_of (rows_at most_rows t.header.value.order t.header.value.columns t.bytes.now t.start) in
    let g : Grid = record { head = t.header.value; rows = rows } in
    let own = (rw (← c.self.view_is) at c.requires.own) ∙ spans_are t.bytes.now g t.start c.self.invariant.begun in
    let within = rw (← c.self.view_is) at c.requires.within in
    let many = length-spans (length rows) t.header.value.order t.header.value.columns t.bytes.now t.start in
    omega (arith, within, ap length own, many)

pub returns : goal.returns
returns c =
    let t = c.self.inside in
    let rows = rows_of (rows_at most_rows t.header.value.order t.header.value.columns t.bytes.now t.start) in
    let g : Grid = record { head = t.header.value; rows = rows } in
    let own = (rw (← c.self.view_is) at c.requires.own) ∙ spans_are t.bytes.now g t.start c.self.invariant.begun in
    let within = rw (← c.self.view_is) at c.requires.within in
    let many = length-spans (length rows) t.header.value.order t.header.value.columns t.bytes.now t.start in
    let s = span_row (length rows) most_rows t.header.value.order t.header.value.columns t.bytes.now t.start c.args.k (is_ok_from _ _ c.self.invariant.read) refl within in
    let b = by_span t.header.value.order t.header.value.columns t.bytes.now rows (spans_at (length rows) t.header.value.order t.header.value.columns t.bytes.now t.start) c.args.index.now c.args.k (c.args.k + 1 - 1) c.entry-offset.result s own (omega arith) c.entry-offset.ensures in
    rw (← c.self.view_is) record { inside = b.0; read = b.1; item = b.2 }
