use Rattle.std.proofs.Common.{◌≡◌, Ok, ◌∙◌}
use Rattle.vpf_base.specs.Limits.{most_rows}
use Rattle.vpf_base.proofs.Results.{ok_not_err}
use Rattle.vpf_varindex.specs.Reading.{index_at}
use Rattle.vpf_table.specs.Reading.{rows_at, table_of}
use Rattle.vpf_table.specs.Walking.{rows_of}
use Rattle.vpf_table.proofs.CellOf.{same_found}
use Rattle.vpf_table.proofs.CountLaws.{known_own}
use Rattle.vpf_table.proofs.OpenLemmas.{table_read}
use Rattle.vpf_table.proofs.table_file.TableFile.known_index.Goals as goal

pub unreachable-requires : goal.unreachable-requires
unreachable-requires c =
    let f = c.args.self.now in
    let t = c.self.inside in
    let rows = rows_of (rows_at most_rows t.header.value.order t.header.value.columns t.bytes.now t.start) in
    let table : table_of f.bytes ≡ Ok f.grid = rw (← c.self.view_is) (table_read t.bytes.now t.header.value t.start rows c.self.invariant.begun c.self.invariant.read) in
    let k = known_own f.bytes c.args.index.now f.grid table c.requires in
    ok_not_err (index_at f.grid.head.order c.args.index.now) k.0 c.in-Err.field-0 k.1 (rw (c.order.ensures, c.header.ensures) at c.in-Err.ensures.exact)

pub returns-clause-own : goal.returns-clause-own
returns-clause-own c =
    let f = c.args.self.now in
    let t = c.self.inside in
    let rows = rows_of (rows_at most_rows t.header.value.order t.header.value.columns t.bytes.now t.start) in
    let table : table_of f.bytes ≡ Ok f.grid = rw (← c.self.view_is) (table_read t.bytes.now t.header.value t.start rows c.self.invariant.begun c.self.invariant.read) in
    let k = known_own f.bytes c.args.index.now f.grid table c.requires in
    same_found (index_at f.grid.head.order c.args.index.now) c.in-Ok.entries k.0 (rw (c.order.ensures, c.header.ensures) at c.in-Ok.ensures.exact) k.1 ∙ k.2

pub returns-clause-exact : goal.returns-clause-exact
returns-clause-exact c =
    let f = c.args.self.now in
    let t = c.self.inside in
    let rows = rows_of (rows_at most_rows t.header.value.order t.header.value.columns t.bytes.now t.start) in
    let table : table_of f.bytes ≡ Ok f.grid = rw (← c.self.view_is) (table_read t.bytes.now t.header.value t.start rows c.self.invariant.begun c.self.invariant.read) in
    (known_own f.bytes c.args.index.now f.grid table c.requires).3
