use Rattle.std.proofs.Common.{drop, sym, ◌∙◌, arith, rules}
use Rattle.std.proofs.lemmas.List.{drop_all}
use Rattle.vpf_findings.specs.Values.{view}
use Rattle.vpf_head.specs.Inner.Views.{col}
use Rattle.vpf_table.proofs.CellOf.{next_is_spelled, next_is_first, none_left}
use Rattle.vpf_table.proofs.row.CellsIterator.next.Goals as goal

pub returns-then-self-len-clause-steps : goal.returns-then-self-len-clause-steps
returns-then-self-len-clause-steps c =
    let s = c.self.inside in
    let columns = s.header.now.columns in
    let e = sym c.self.view_is ∙ none_left s.header.now.order (drop s.column columns) s.bytes.now s.at (drop_all s.column columns (omega arith)) in
    (e, e)

pub sure_cell-past-requires-clause-read : goal.sure_cell-past-requires-clause-read
sure_cell-past-requires-clause-read c =
    let s = c.self.inside in
    rw c.order.ensures (next_is_spelled s.header.now.order s.header.now.columns s.bytes.now s.at s.column (col c.at-column.result.now) c.at-column.ensures c.self.invariant.read)

pub invariant_of-self : goal.invariant_of-self
invariant_of-self c =
    let s = c.self.inside in
    let cell = rw c.order.ensures at c.sure_cell-past.ensures.exact in
    record {
      read = (next_is_first s.header.now.order s.header.now.columns s.bytes.now s.at s.column (col c.at-column.result.now) (view c.sure_cell-past.result.0) c.sure_cell-past.result.1 c.at-column.ensures c.self.invariant.read cell).0;
      inside = c.sure_cell-past.ensures.inside;
    }

pub returns-clause-steps : goal.returns-clause-steps
returns-clause-steps c =
    let s = c.self.inside in
    let cell = rw c.order.ensures at c.sure_cell-past.ensures.exact in
    sym c.self.view_is ∙ (next_is_first s.header.now.order s.header.now.columns s.bytes.now s.at s.column (col c.at-column.result.now) (view c.sure_cell-past.result.0) c.sure_cell-past.result.1 c.at-column.ensures c.self.invariant.read cell).1

pub returns-clause-goes : goal.returns-clause-goes
returns-clause-goes c = rw (returns-clause-steps c) (search rules)
