use Rattle.std.proofs.Common.{sym, ◌∙◌, rules}
use Rattle.vpf_table.proofs.RowsOpen.{rows_open, rows_closed}
use Rattle.vpf_table.proofs.iteration.RowsIterator.next.Goals as goal

pub returns-then-self-clause-steps : goal.returns-then-self-clause-steps
returns-then-self-clause-steps c =
    let s = c.self.inside in
    let e = sym c.self.view_is ∙ rows_closed s.left s.header.now.order s.header.now.columns s.bytes.now s.at c.if-self.true in
    (e, e)

pub next_row-past-requires-clause-read : goal.next_row-past-requires-clause-read
next_row-past-requires-clause-read c = let s = c.self.inside in (rows_open s.left s.header.now.order s.header.now.columns s.bytes.now s.at c.self.invariant.read c.if-self.false).row

pub new-row-requires-clause-read : goal.new-row-requires-clause-read
new-row-requires-clause-read c = let s = c.self.inside in (rows_open s.left s.header.now.order s.header.now.columns s.bytes.now s.at c.self.invariant.read c.if-self.false).row

pub overflow_sub-self : goal.overflow_sub-self
overflow_sub-self c = let s = c.self.inside in (rows_open s.left s.header.now.order s.header.now.columns s.bytes.now s.at c.self.invariant.read c.if-self.false).some

pub invariant_of-self : goal.invariant_of-self
invariant_of-self c =
    let s = c.self.inside in
    let p = rows_open s.left s.header.now.order s.header.now.columns s.bytes.now s.at c.self.invariant.read c.if-self.false in
    record { read = rw c.next_row-past.ensures.value p.rest; fixed = c.self.invariant.fixed; inside = c.next_row-past.ensures.inside }

pub returns-clause-steps : goal.returns-clause-steps
returns-clause-steps c =
    let s = c.self.inside in
    let p = rows_open s.left s.header.now.order s.header.now.columns s.bytes.now s.at c.self.invariant.read c.if-self.false in
    rw (c.new-row.ensures.row, c.next_row-past.ensures.value) (sym c.self.view_is ∙ p.is)

pub returns-clause-goes : goal.returns-clause-goes
returns-clause-goes c = rw (returns-clause-steps c) (search rules)
